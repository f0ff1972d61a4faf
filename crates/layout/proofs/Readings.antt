-- Components whose texts were read.
use Rattle.std.proofs.Common.{◌≡◌, ℕ, Bool, true, false, cond, ◌&&◌, List, Some, None, Option, Result, Ok, Err, sym, refl, ap, ap₂, ◌∙◌}
use Rattle.std.specs.Prelude.{IfOk, IfErr, IsSomeAnd}
use Rattle.std.proofs.Common.{inl, inr}
use Rattle.std.specs.Option.{option_map}
use Rattle.std.proofs.lemmas.Bool.{and_from}
use Rattle.components.specs.Mapped.{BoundBecomes, ComponentBecomes, OptionBecomes, SomeText, TypeBecomes, bound_text, type_text}
use Rattle.components.specs.declared.component.Component.{Component}
use Rattle.components.specs.declared.component.ComponentType.{ComponentType}
use Rattle.components.specs.declared.component.ComponentType.TheVariants.{Literal, Variable, Filler}
use Rattle.components.specs.declared.ranges.Usb.{Usb}
use Rattle.texts.specs.Flats.{flat_text}
use Rattle.texts.specs.Refusals.{refusal}
use Rattle.texts.specs.Tokens.{flattened}
use Rattle.texts.specs.Flats.{Flat}
use Rattle.texts.specs.declared.token_tree.Item.{Item}
use Rattle.texts.specs.declared.refusals.Refusal.{Refusal}
use Rattle.texts.specs.declared.refusals.Refusal.TheVariants.{WrongText}
use Rattle.layout.specs.Mapping.{map_bound, map_component, map_type}
use Rattle.layout.specs.Reading.{bound_reads, component_reads, variable_reads}
use Rattle.layout.specs.declared.handed_names.FnNames.{FnNames}
use Rattle.layout.proofs.Refusing.{some_none}

-- a test that decides a refusal, and that a refusal decides
passed : (k : Bool) (w : Refusal) → ◌≡◌ {A = Option Refusal} None (cond k None (Some w)) → k ≡ true
passed true w h = refl
passed false w h = some_none w (sym h)

failed : (k all : Bool) (e w : Refusal) → Some e ≡ cond k None (Some w) → (k ≡ false → all ≡ false) → Some e ≡ cond all None (Some w)
failed true all e w h f = some_none e h
failed false all e w h f = h ∙ sym (ap (λ (b : Bool). cond b None (Some w)) (f refl))

and_right : (a b : Bool) → b ≡ false → (a && b) ≡ false
and_right true b h = h
and_right false b h = refl

module _ (f : FnNames) (lists : List Item) {V R : ℕ → Flat → Type 0} {X Y : ℕ → Refusal → Type 0}
    (v : (a : ℕ) (b : Flat) → V a b → (None ≡ cond (variable_reads lists (Some a)) None (Some WrongText)) × (flat_text b ≡ flattened lists a))
    (r : (a : ℕ) (b : Flat) → R a b → (None ≡ cond (bound_reads f lists (Some a)) None (Some WrongText)) × (flat_text b ≡ flattened lists a))
    (x : (a : ℕ) (e : Refusal) → X a e → Some e ≡ cond (variable_reads lists (Some a)) None (Some WrongText))
    (y : (a : ℕ) (e : Refusal) → Y a e → Some e ≡ cond (bound_reads f lists (Some a)) None (Some WrongText)) where
  type_read : (t : ComponentType ℕ) (u : ComponentType Flat) → TypeBecomes V t u
      → (variable_reads lists (type_text t) ≡ true) × (map_type flat_text u ≡ map_type (flattened lists) t)
  type_read (Literal width value) u h = (refl, ap (map_type flat_text) h)
  type_read (Variable a) u h =
      let p = v a h.0 h.2 in
      (passed (variable_reads lists (Some a)) WrongText p.0, ap (map_type flat_text) h.1 ∙ ap Variable p.1)
  type_read Filler u h = (refl, ap (map_type flat_text) h)

  text_read : (s : Option ℕ) (t : Option Flat) → OptionBecomes R s t
      → (bound_reads f lists s ≡ true) × (option_map flat_text t ≡ option_map (flattened lists) s)
  text_read None t h = (refl, ap (option_map flat_text) h)
  text_read (Some a) None h = absurd h
  text_read (Some a) (Some b) h =
      let p = r a b h in
      (passed (bound_reads f lists (Some a)) WrongText p.0, ap Some p.1)

  bound_read : (s : Option (Usb ℕ)) (t : Option (Usb Flat)) → OptionBecomes (BoundBecomes R) s t
      → (bound_reads f lists (bound_text s) ≡ true) × (option_map (map_bound flat_text) t ≡ option_map (map_bound (flattened lists)) s)
  bound_read None t h = (refl, ap (option_map (map_bound flat_text)) h)
  bound_read (Some b) None h = absurd h
  bound_read (Some b) (Some c) h =
      let p = text_read b.s c.s h.0 in
      (p.0, ap₂ (λ s n. Some (record { s = s; x = n })) p.1 h.1)

  pub all_read : (c : Component ℕ) (d : Component Flat) → ComponentBecomes V R c d
      → (component_reads f lists c ≡ true) × (map_component flat_text d ≡ map_component (flattened lists) c)
  all_read c d h =
      let t = type_read c.c_type d.c_type h.0 in
      let s = bound_read c.range.start d.range.start h.1 in
      let e = bound_read c.range.end d.range.end h.2 in (
        and_from _ _ (and_from _ _ t.0 s.0) e.0,
        ap₂ (λ (a : ComponentType (List ℕ)) (p : Option (Usb (List ℕ)) × Option (Usb (List ℕ))). record { c_type = a; range = record { start = p.0; end = p.1 } }) t.1 (ap₂ (λ (a b : Option (Usb (List ℕ))). (a, b)) s.1 e.1),
      )

  type_fails : (t : ComponentType ℕ) (e : Refusal) → IsSomeAnd (type_text t) (λ a. X a e) → Some e ≡ cond (variable_reads lists (type_text t)) None (Some WrongText)
  type_fails (Literal width value) e h = absurd h
  type_fails (Variable a) e h = x a e h
  type_fails Filler e h = absurd h

  text_fails : (o : Option ℕ) (e : Refusal) → IsSomeAnd o (λ a. Y a e) → Some e ≡ cond (bound_reads f lists o) None (Some WrongText)
  text_fails None e h = absurd h
  text_fails (Some a) e h = y a e h

  pub some_fails : (c : Component ℕ) (e : Refusal) → SomeText X Y c e → Some e ≡ cond (component_reads f lists c) None (Some WrongText)
  some_fails c e (inl h) =
      failed (variable_reads lists (type_text c.c_type)) (component_reads f lists c) e WrongText (type_fails c.c_type e h)
      (λ k. ap (λ (b : Bool). (b && bound_reads f lists (bound_text c.range.start)) && bound_reads f lists (bound_text c.range.end)) k)
  some_fails c e (inr (inl h)) =
      failed (bound_reads f lists (bound_text c.range.start)) (component_reads f lists c) e WrongText (text_fails (bound_text c.range.start) e h)
      (λ k. ap (λ (b : Bool). b && bound_reads f lists (bound_text c.range.end)) (and_right (variable_reads lists (type_text c.c_type)) (bound_reads f lists (bound_text c.range.start)) k))
  some_fails c e (inr (inr h)) =
      failed (bound_reads f lists (bound_text c.range.end)) (component_reads f lists c) e WrongText (text_fails (bound_text c.range.end) e h)
      (λ k. and_right (variable_reads lists (type_text c.c_type) && bound_reads f lists (bound_text c.range.start)) (bound_reads f lists (bound_text c.range.end)) k)

  -- a component is read where all its texts are
  pub read_whole : (c : Component ℕ) (o : Result (Component Flat) Refusal) → IfOk o (λ d. ComponentBecomes V R c d) → IfErr o (λ e. SomeText X Y c e)
      → (refusal o ≡ cond (component_reads f lists c) None (Some WrongText)) × IfOk o (λ d. map_component flat_text d ≡ map_component (flattened lists) c)
  read_whole c (Ok d) h k =
      let p = all_read c d h in
      (sym (ap (λ (b : Bool). cond b None (Some WrongText)) p.0), p.1)
  read_whole c (Err e) h k = (some_fails c e k, tt)
