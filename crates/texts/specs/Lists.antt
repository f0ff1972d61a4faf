-- What is added to text lists, and what is refused.
use Rattle.std.specs.Prelude.{◌≡◌, ℕ, ◌+◌, Bool, true, false, cond, not, ◌&&◌, ◌||◌, List, [], ◌∷◌, ◌++◌, length, Some, None, Option, ◌==◌, nat_le, nat_lt}
use Rattle.texts.specs.Printable.{every_printable}
use Rattle.texts.specs.Tokens.{bytes_of, delimiter_of, items_of, taken_in}
use Rattle.texts.specs.declared.refusals.Refusal.{Refusal}
use Rattle.texts.specs.declared.refusals.Refusal.TheVariants.{NoRoomForItem, WrongItem, WrongChild}
use Rattle.texts.specs.declared.token_tree.Item.{Item}
use Rattle.texts.specs.declared.token_tree.Text.{Text}
use Rattle.texts.specs.declared.token_tree.Text.TheVariants.{Chars, Group}
use Rattle.texts.specs.Flats.{ShortText}
use Rattle.texts.specs.declared.token_tree.Delimiter.{Delimiter}

-- a text of an item: 1 to 60 printable bytes
abbrev pub short : List ℕ → Bool
short bytes = nat_le 1 (length bytes) && nat_le (length bytes) 60 && every_printable bytes

-- there is no list of this number, or no item is left
abbrev pub no_room : List Item → ℕ → Bool
no_room items list = nat_lt 255 list || nat_le 1024 (length items)

-- how a text is refused, if it is
abbrev pub text_refusal : List Item → ℕ → List ℕ → Option Refusal
text_refusal items list bytes =
    cond (no_room items list) (Some NoRoomForItem) (cond (short bytes) None (Some WrongItem))

-- a list that may stand in a group of another: its number is greater, it is one of the lists, and stands in no group yet
abbrev pub free_child : List Item → ℕ → ℕ → Bool
free_child items list child = nat_lt list child && nat_le child 255 && not (taken_in child items)

-- how a group is refused, if it is
abbrev pub group_refusal : List Item → ℕ → ℕ → ℕ → Option Refusal
group_refusal items list delimiter child =
    cond (no_room items list) (Some NoRoomForItem)
    (cond (nat_lt 7 delimiter) (Some WrongItem) (cond (free_child items list child) None (Some WrongChild)))

-- the lists after an item was added: one more at the end of its list, and every other list is as it was
pub record Added (list : ℕ) (t : Text) (old new : List Item) : Type 0 where
  pub items : (k : ℕ) → items_of k new ≡ cond (k == list) (items_of k old ++ record { list = list; text = t } ∷ []) (items_of k old)
  pub count : length new ≡ length old + 1

-- the lists after a call that adds a text, if it was accepted: else all is as it was
abbrev pub Written : Bool → ℕ → List ℕ → List Item → List Item → Type 0
Written true list bytes old new = (t : ShortText) × (bytes_of t ≡ bytes) × Added list (Chars t) old new
Written false list bytes old new = new ≡ old

-- the lists after a call that adds a group, if it was accepted
abbrev pub Grouped : Bool → ℕ → ℕ → ℕ → List Item → List Item → Type 0
Grouped true list delimiter child old new = (d : Delimiter) × (delimiter_of delimiter ≡ Some d) × Added list (Group d child) old new
Grouped false list delimiter child old new = new ≡ old
