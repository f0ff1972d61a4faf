use Rattle.std.proofs.Common.{◌≡◌, ℕ, true, List, Option, sym, ap, ◌∙◌, arith}
use Rattle.std.specs.Option.{option_map}
use Rattle.pool.specs.Firsts.{with_key}
use Rattle.pool.specs.Words.{by_word}
use Rattle.names.specs.Tables.{names_of}
use Rattle.texts.specs.Flats.{Flat, flat_text}
use Rattle.components.specs.declared.ranges.Usb.{Usb}
use Rattle.layout.specs.Mapping.{bound_text, map_bound}
use Rattle.layout.specs.Naming.{names_fit, with_text}
use Rattle.layout.proofs.NewNames.{room_for}
use Rattle.layout.proofs.naming.name_bound.Goals as goal

pub insert-requires : goal.insert-requires
insert-requires c =
    let names : List (List ℕ) = names_of c.args.names.now in
    let text : List ℕ = c.as_slice.result.now in
    let fits : names_fit (with_key by_word names text) ≡ true =
    ap (λ (x : List ℕ). names_fit (with_key by_word names x)) c.as_slice.ensures.text
    ∙ sym (ap (λ (o : Option Flat). names_fit (with_text names (option_map flat_text o))) (sym (ap (λ (b : Usb Flat). b.s) c.in-Some.field-0-is) ∙ c.in-Some-s.is))
    ∙ sym (ap (λ (o : Option (Usb Flat)). names_fit (with_text names (bound_text (option_map (map_bound flat_text) o)))) c.in-Some.is)
    ∙ c.requires.room in
    record { short = omega (arith, c.as_slice.ensures.few); room = λ e. (room_for names text fits e).0; bytes_room = λ e. (room_for names text fits e).1 }
