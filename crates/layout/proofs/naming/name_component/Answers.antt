use Rattle.std.proofs.Common.{◌≡◌, ℕ, List, Option, sym, ap, ◌∙◌}
use Rattle.std.specs.Option.{option_map}
use Rattle.names.specs.Tables.{names_of}
use Rattle.names.specs.declared.numbers.PName.{PName}
use Rattle.components.specs.declared.component.Component.{Component}
use Rattle.components.specs.declared.component.ComponentType.{ComponentType}
use Rattle.components.specs.declared.ranges.Usb.{Usb}
use Rattle.texts.specs.Flats.{flat_text}
use Rattle.layout.specs.Mapping.{bound_text, map_bound, map_type, type_text}
use Rattle.layout.specs.Naming.{name_of, names_fit, with_text}
use Rattle.layout.proofs.NewNames.{bound_stays, fits_before, type_stays}
use Rattle.layout.proofs.naming.name_component.Goals as goal

pub name_type-c_type-requires : goal.name_type-c_type-requires
name_type-c_type-requires c =
    let names : List (List ℕ) = names_of c.args.names.now in
    let t : ComponentType (List ℕ) = map_type flat_text c.args.component.now.c_type in
    let start : Option (Usb (List ℕ)) = option_map (map_bound flat_text) c.args.component.now.range.start in
    let end : Option (Usb (List ℕ)) = option_map (map_bound flat_text) c.args.component.now.range.end in
    record {
      room = fits_before (with_text names (type_text t)) (bound_text start) (fits_before (with_text (with_text names (type_text t)) (bound_text start)) (bound_text end) c.requires.room);
    }

pub name_bound-start-requires : goal.name_bound-start-requires
name_bound-start-requires c =
    let names : List (List ℕ) = names_of c.args.names.now in
    let t : ComponentType (List ℕ) = map_type flat_text c.args.component.now.c_type in
    let start : Option (Usb (List ℕ)) = option_map (map_bound flat_text) c.args.component.now.range.start in
    let end : Option (Usb (List ℕ)) = option_map (map_bound flat_text) c.args.component.now.range.end in
    record {
      room = ap (λ (ns : List (List ℕ)). names_fit (with_text ns (bound_text start))) c.name_type-c_type.ensures.names
          ∙ fits_before (with_text (with_text names (type_text t)) (bound_text start)) (bound_text end) c.requires.room;
    }

pub returns : goal.returns
returns c =
    let names : List (List ℕ) = names_of c.args.names.now in
    let t : ComponentType (List ℕ) = map_type flat_text c.args.component.now.c_type in
    let start : Option (Usb (List ℕ)) = option_map (map_bound flat_text) c.args.component.now.range.start in
    let end : Option (Usb (List ℕ)) = option_map (map_bound flat_text) c.args.component.now.range.end in
    let one : names_of c.name_type-c_type.new.names ≡ with_text names (type_text t) = c.name_type-c_type.ensures.names in
    let two : names_of c.name_bound-start.new.names ≡ with_text (with_text names (type_text t)) (bound_text start) =
    c.name_bound-start.ensures.names ∙ ap (λ (ns : List (List ℕ)). with_text ns (bound_text start)) one in
    let all : names_of c.name_bound-end.new.names ≡ with_text (with_text (with_text names (type_text t)) (bound_text start)) (bound_text end) =
    c.name_bound-end.ensures.names ∙ ap (λ (ns : List (List ℕ)). with_text ns (bound_text end)) two in
    let last : List (List ℕ) = names_of c.name_bound-end.new.names in
    let type-is : c.name_type-c_type.result ≡ map_type (name_of last) t =
    c.name_type-c_type.ensures.answer ∙ ap (λ (ns : List (List ℕ)). map_type (name_of ns) t) one ∙ type_stays names t (bound_text start) (bound_text end)
    ∙ ap (λ (ns : List (List ℕ)). map_type (name_of ns) t) (sym all) in
    let start_is : c.name_bound-start.result ≡ option_map (map_bound (name_of last)) start =
    c.name_bound-start.ensures.answer ∙ ap (λ (ns : List (List ℕ)). option_map (map_bound (name_of ns)) start) two ∙ bound_stays (with_text names (type_text t)) start (bound_text end)
    ∙ ap (λ (ns : List (List ℕ)). option_map (map_bound (name_of ns)) start) (sym all) in
    record { names = all; answer = made_of type-is start_is c.name_bound-end.ensures.answer }
  where
    made_of : {a b : ComponentType PName} {p q u v : Option (Usb PName)} → a ≡ b → p ≡ q → u ≡ v
        → ◌≡◌ {A = Component PName} (record { c_type = a; range = record { start = p; end = u } }) (record { c_type = b; range = record { start = q; end = v } })
    made_of {a} {b} {p} {q} {u} {v} e f g =
        ap (λ (x : ComponentType PName). record { c_type = x; range = record { start = p; end = u } }) e
        ∙ ap (λ (x : Option (Usb PName)). record { c_type = b; range = record { start = x; end = u } }) f
        ∙ ap (λ (x : Option (Usb PName)). record { c_type = b; range = record { start = q; end = x } }) g
