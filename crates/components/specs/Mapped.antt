-- Components with other things in the place of what their texts are known by.
use Rattle.std.specs.Prelude.{◌≡◌, None, Some, Option, IsSomeAnd}
use Rattle.std.proofs.Common.{◌⊎◌}
use Rattle.components.specs.declared.ranges.Usb.{Usb}
use Rattle.components.specs.declared.component.Component.{Component}
use Rattle.components.specs.declared.component.ComponentType.{ComponentType}
use Rattle.components.specs.declared.component.ComponentType.TheVariants.{Literal, Variable, Filler}

-- what stands for the text of a variable, and of a bound
abbrev pub type_text : {A : Type 0} → ComponentType A → Option A
type_text (Literal width value) = None
type_text (Variable text) = Some text
type_text Filler = None

abbrev pub bound_text : {A : Type 0} → Option (Usb A) → Option A
bound_text None = None
bound_text (Some b) = b.s

-- what is there became something by R, and what is not there stays away
abbrev pub OptionBecomes : {A B : Type 0} → (A → B → Type 0) → Option A → Option B → Type 0
OptionBecomes R None o = o ≡ None
OptionBecomes R (Some a) o = IsSomeAnd o (R a)

-- each text became something by R, and the rest is the same
abbrev pub TypeBecomes : {A B : Type 0} → (A → B → Type 0) → ComponentType A → ComponentType B → Type 0
TypeBecomes R (Literal width value) t = t ≡ Literal width value
TypeBecomes {B = B} R (Variable a) t = (b : B) × (t ≡ Variable b) × R a b
TypeBecomes R Filler t = t ≡ Filler

abbrev pub BoundBecomes : {A B : Type 0} → (A → B → Type 0) → Usb A → Usb B → Type 0
BoundBecomes R b c = OptionBecomes R b.s c.s × (c.x ≡ b.x)

-- the text of a variable by V, and those of the bounds by R
abbrev pub ComponentBecomes : {A B : Type 0} → (A → B → Type 0) → (A → B → Type 0) → Component A → Component B → Type 0
ComponentBecomes V R c d =
    TypeBecomes V c.c_type d.c_type × OptionBecomes (BoundBecomes R) c.range.start d.range.start × OptionBecomes (BoundBecomes R) c.range.end d.range.end

-- one of the texts, that of a variable by V and those of the bounds by R, gave e
abbrev pub SomeText : {A E : Type 0} → (A → E → Type 0) → (A → E → Type 0) → Component A → E → Type 0
SomeText V R c e =
    IsSomeAnd (type_text c.c_type) (λ a. V a e) ⊎ (IsSomeAnd (bound_text c.range.start) (λ a. R a e) ⊎ IsSomeAnd (bound_text c.range.end) (λ a. R a e))
