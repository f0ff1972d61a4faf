-- A layout as its accepted calls gave it, and what each call answers and adds.
use Rattle.std.specs.Prelude.{ℕ, ◌-◌, Bool, cond, not, ◌&&◌, ◌||◌, List, [], ◌∷◌, ◌++◌, length, Some, None, Option, nat_le, nat_lt}
use Rattle.names.specs.declared.numbers.PName.{PName}
use Rattle.components.specs.Concatenations.{deterministic}
use Rattle.components.specs.Parts.{fits_literal, fits_start, is_literal, unbounded_filler}
use Rattle.components.specs.Ranges.{range_within}
use Rattle.components.specs.declared.component.Component.{Component}
use Rattle.texts.specs.Lists.{group_refusal, text_refusal}
use Rattle.texts.specs.Tokens.{flattened}
use Rattle.texts.specs.declared.refusals.Refusal.{Refusal}
use Rattle.texts.specs.declared.refusals.Refusal.TheVariants.{NoRoomForItem, NoRoomForPart, WrongStart, BoundOutside, SecondFiller, WrongLiteral, ReversedRange, WrongText, NamesFull}
use Rattle.texts.specs.declared.token_tree.Item.{Item}
use Rattle.layout.specs.Mapping.{map_component}
use Rattle.layout.specs.Naming.{name_of, names_after, names_fit}
use Rattle.layout.specs.Reading.{component_reads, reversed}
use Rattle.layout.specs.Starts.{concat_at}
use Rattle.layout.specs.declared.handed_names.FnNames.{FnNames}

-- its text lists, its names by number, its components, and where each concatenation begins among them
pub record Described : Type 0 where
  pub lists : List Item
  pub names : List (List ℕ)
  pub components : List (Component PName)
  pub starts : List ℕ

-- how many concatenations there are, and the components of concatenation k
abbrev pub concats : Described → ℕ
concats d = length d.starts

abbrev pub comps_at : Described → ℕ → List (Component PName)
comps_at d k = concat_at d.starts d.components k

-- the components of the last concatenation
abbrev pub last_comps : Described → List (Component PName)
last_comps d = comps_at d (concats d - 1)

-- texts and groups come before the first concatenation
abbrev pub begun_answer : Described → Option Refusal
begun_answer d = cond (nat_lt 0 (concats d)) (Some NoRoomForItem) None

abbrev pub text_answer : Described → ℕ → List ℕ → Option Refusal
text_answer d list bytes = cond (nat_lt 0 (concats d)) (Some NoRoomForItem) (text_refusal d.lists list bytes)

abbrev pub group_answer : Described → ℕ → ℕ → ℕ → Option Refusal
group_answer d list delimiter child =
    cond (nat_lt 0 (concats d)) (Some NoRoomForItem) (group_refusal d.lists list delimiter child)

-- at most 16 concatenations
abbrev pub concatenation_answer : Described → Option Refusal
concatenation_answer d = cond (nat_le 16 (concats d)) (Some NoRoomForPart) None

abbrev pub with_concatenation : Described → List ℕ
with_concatenation d = d.starts ++ length d.components ∷ []

-- there is a concatenation, with at most 31 components
abbrev pub has_place : Described → Bool
has_place d = nat_lt 0 (concats d) && nat_lt (length (last_comps d)) 32

-- a second filler without end
abbrev pub second_filler : {T : Type 0} → List (Component PName) → Component T → Bool
second_filler comps c = unbounded_filler c && not (deterministic comps)

-- a literal outside the first concatenation
abbrev pub literal_in_sink : {T : Type 0} → ℕ → Component T → Bool
literal_in_sink count c = is_literal c.c_type && nat_lt 1 count

-- how a component is refused for what it is, where it stands after these components of the last of so many concatenations
abbrev pub shape_answer : {T : Type 0} → List (Component PName) → ℕ → Component T → Option Refusal
shape_answer comps count c =
    cond (not (fits_start c)) (Some WrongStart)
    (cond (not (range_within c.range)) (Some BoundOutside)
    (cond (second_filler comps c) (Some SecondFiller)
    (cond (literal_in_sink count c || not (fits_literal c)) (Some WrongLiteral) None)))

-- a component with the texts of its lists
abbrev pub spelled : Described → Component ℕ → Component (List ℕ)
spelled d c = map_component (flattened d.lists) c

-- the names once the component is there
abbrev pub with_names : Described → Component ℕ → List (List ℕ)
with_names d c = names_after d.names (spelled d c)

-- how a component is refused for its texts
abbrev pub texts_answer : FnNames → Described → Component ℕ → Option Refusal
texts_answer f d c =
    cond (reversed d.lists c.range) (Some ReversedRange)
    (cond (not (component_reads f d.lists c)) (Some WrongText)
    (cond (not (names_fit (with_names d c))) (Some NamesFull) None))

-- the first of two refusals
abbrev pub first_of : Option Refusal → Option Refusal → Option Refusal
first_of None second = second
first_of (Some refusal) second = Some refusal

-- how a component is refused, if it is
abbrev pub component_answer : FnNames → Described → Component ℕ → Option Refusal
component_answer f d c =
    cond (not (has_place d)) (Some NoRoomForPart) (first_of (shape_answer (last_comps d) (concats d) c) (texts_answer f d c))

-- the components with one more, which has the numbers of names in the place of its lists
abbrev pub with_component : Described → Component ℕ → List (Component PName)
with_component d c = d.components ++ map_component (name_of (with_names d c)) (spelled d c) ∷ []
