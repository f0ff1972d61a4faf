use Rattle.std.proofs.Common.{◌≡◌, ℕ, true, List, sym, ap, ◌∙◌, arith}
use Rattle.pool.specs.Firsts.{with_key}
use Rattle.pool.specs.Words.{by_word}
use Rattle.names.specs.Tables.{names_of}
use Rattle.texts.specs.Flats.{Flat, flat_text}
use Rattle.components.specs.declared.component.ComponentType.{ComponentType}
use Rattle.layout.specs.Mapping.{map_type, type_text}
use Rattle.layout.specs.Naming.{names_fit, with_text}
use Rattle.layout.proofs.NewNames.{room_for}
use Rattle.layout.proofs.naming.name_type.Goals as goal

pub insert-requires : goal.insert-requires
insert-requires c =
    let names : List (List ℕ) = names_of c.args.names.now in
    let text : List ℕ = c.as_slice.result.now in
    let fits : names_fit (with_key by_word names text) ≡ true =
    ap (λ (x : List ℕ). names_fit (with_key by_word names x)) c.as_slice.ensures.text
    ∙ sym (ap (λ (t : ComponentType Flat). names_fit (with_text names (type_text (map_type flat_text t)))) c.in-Variable.is) ∙ c.requires.room in
    record { short = omega (arith, c.as_slice.ensures.few); room = λ e. (room_for names text fits e).0; bytes_room = λ e. (room_for names text fits e).1 }
