use Rattle.std.proofs.Common.{◌≡◌, ℕ, ◌+◌, ◌*◌, ◌≤◌, List, [], ◌∷◌, ◌++◌, length, vec_items, vec_len, sym, ap, ap₂, ◌∙◌, subst, arith}
use Rattle.names.specs.Tables.{names_of}
use Rattle.names.specs.declared.numbers.PName.{PName}
use Rattle.components.specs.declared.component.Component.{Component}
use Rattle.texts.specs.Flats.{flat_text}
use Rattle.layout.specs.Layouts.{Described, has_place, last_comps, shape_answer, spelled, texts_answer, with_names}
use Rattle.layout.specs.Mapping.{map_component}
use Rattle.layout.specs.Naming.{name_of, names_after}
use Rattle.layout.specs.Starts.{Begun}
use Rattle.layout.proofs.Rooms.{accepted, enough}
use Rattle.layout.proofs.StartLaws.{begun_more}
use Rattle.layout.proofs.ast.Layout.component.Goals as goal

pub push_reserved-requires : goal.push_reserved-requires
push_reserved-requires c =
    omega (arith, (enough _ _ _ c.self.view_is c.self.inside.components.ok.0 c.self.invariant.2 (sym c.if-not-has_place.ensures.answer)).2, c.self.invariant.2.few, c.self.invariant.0)

pub invariant_of-self : goal.invariant_of-self
invariant_of-self c =
    let starts : List ℕ = vec_items c.self.inside.starts in
    let total : ℕ = vec_len c.self.inside.components in
    let room = enough _ _ _ c.self.view_is c.self.inside.components.ok.0 c.self.invariant.2 (sym c.if-not-has_place.ensures.answer) in
    let more : total + 1 ≡ vec_len c.push_reserved.new.self = sym c.push_reserved.ensures.len in (
      omega (arith, c.push_reserved.ensures.capacity, c.self.invariant.0),
      c.self.invariant.1,
      subst (Begun starts) more (begun_more starts total c.self.invariant.2 room.0 room.1),
    )

pub returns : goal.returns
returns c =
    let d : Described = c.args.self.now in
    let given = c.args.component in
    let texts : map_component flat_text c.in_ok-spelled.spelled ≡ spelled d given = c.in_ok-spelled.ensures.texts in
    let names : names_of c.name_component-named.new.names ≡ with_names d given =
    c.name_component-named.ensures.names ∙ ap₂ names_after (ap (λ (x : Described). x.names) c.self.view_is) texts in
    let named : c.name_component-named.result ≡ map_component (name_of (with_names d given)) (spelled d given) =
    c.name_component-named.ensures.answer
    ∙ ap (λ (ns : List (List ℕ)). map_component (name_of ns) (map_component flat_text c.in_ok-spelled.spelled)) names
    ∙ ap (map_component (name_of (with_names d given))) texts in
    record {
      refused = accepted (has_place d) (shape_answer (last_comps d) (length d.starts) given) (texts_answer c.args.fn_names.now d given) (sym c.if-not-has_place.ensures.answer)
          (c.in_ok-check_shape.ensures.refused
          ∙ ap (λ (cs : List (Component PName)). shape_answer cs c.count.result given) c.last_comps.ensures.comps
          ∙ ap (λ (n : ℕ). shape_answer (last_comps d) n given) c.count.ensures.answer)
          c.in_ok-spelled.ensures.refused;
      lists = ap (λ (x : Described). x.lists) c.self.view_is;
      names = names;
      components = c.push_reserved.ensures.items ∙ ap₂ (λ (xs : List (Component PName)) (x : Component PName). xs ++ x ∷ []) (ap (λ (x : Described). x.components) c.self.view_is) named;
      starts = ap (λ (x : Described). x.starts) c.self.view_is;
    }
