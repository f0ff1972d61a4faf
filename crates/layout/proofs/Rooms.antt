-- Room for a component, and the answers that an accepted one gets.
use Rattle.std.proofs.Common.{◌≡◌, ℕ, ◌+◌, ◌-◌, ◌*◌, ◌<◌, ◌≤◌, Bool, true, false, cond, not, ltb, length, Some, None, Option, sym, ap, ◌∙◌}
use Rattle.std.proofs.lemmas.Bool.{and_parts, ltb-true}
use Rattle.texts.specs.declared.refusals.Refusal.{Refusal}
use Rattle.texts.specs.declared.refusals.Refusal.TheVariants.{NoRoomForPart, ReversedRange, WrongText, NamesFull}
use Rattle.layout.specs.Layouts.{Described, first_of, has_place, last_comps}
use Rattle.layout.specs.Starts.{Begun, start_at}
use Rattle.layout.proofs.StartLaws.{room_left}

-- what is seen of a layout has a place for a component: there is room for one among its components
pub enough : (view d : Described) (total : ℕ) → view ≡ d → total ≡ length view.components → Begun view.starts total → has_place d ≡ true
    → (0 < length view.starts) × (total + 1 ≤ start_at view.starts total (length view.starts - 1) + 32) × (total + 1 ≤ 32 * length view.starts)
enough view d total v e b h =
    let p = and_parts (ltb 0 (length view.starts)) (ltb (length (last_comps view)) 32) (ap has_place v ∙ h) in
    let n : 0 < length view.starts = ltb-true 0 (length view.starts) p.0 in
    let left = room_left view.starts total b view.components (sym e) n (ltb-true (length (last_comps view)) 32 p.1) in (
      n,
      left.0,
      left.1,
    )

-- nothing refuses it
pub accepted : (place : Bool) (shape texts : Option Refusal) → place ≡ true → None ≡ shape → None ≡ texts → None ≡ cond (not place) (Some NoRoomForPart) (first_of shape texts)
accepted place shape texts p s t =
    sym (ap (λ (b : Bool). cond (not b) (Some NoRoomForPart) (first_of shape texts)) p ∙ ap (λ (o : Option Refusal). first_of o texts) (sym s) ∙ sym t)

-- its texts refuse it
pub texts_refuse : (reversed reads fit : Bool) (e : Refusal) → reversed ≡ false → Some e ≡ cond reads None (Some WrongText)
    → Some e ≡ cond reversed (Some ReversedRange) (cond (not reads) (Some WrongText) (cond (not fit) (Some NamesFull) None))
texts_refuse true reads fit e r h = cc
texts_refuse false true fit e r h = cc
texts_refuse false false fit e r h = h
