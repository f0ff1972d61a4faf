-- Lists of texts and groups, and what they flatten to.
use Rattle.std.specs.Prelude.{◌≡◌, ℕ, zero, suc, ◌<◌, Bool, true, false, cond, ◌&&◌, List, [], ◌∷◌, ◌++◌, map, filter, Option, ◌==◌, nat_eq, nat_le, nat_lt, slice_index_or}
use Rattle.std.specs.declared.option.Option.TheVariants as option
use Rattle.std.specs.List.{flat_map, list_all, list_any}
use Rattle.texts.specs.declared.token_tree.Delimiter.{Delimiter}
use Rattle.texts.specs.declared.token_tree.Delimiter.TheVariants.{None, Space, Parenthesis, Bracket, Brace, RangeBracket, Component, Concatenation}
use Rattle.texts.specs.Flats.{ShortText, flat_text}
use Rattle.texts.specs.declared.token_tree.Text.{Text}
use Rattle.texts.specs.declared.token_tree.Text.TheVariants.{Chars, Group}
use Rattle.texts.specs.declared.token_tree.Item.{Item}

-- delimiters by number
abbrev pub delimiters : List Delimiter
delimiters = None ∷ Space ∷ Parenthesis ∷ Bracket ∷ Brace ∷ RangeBracket ∷ Component ∷ Concatenation ∷ []

abbrev pub delimiter_of : ℕ → Option Delimiter
delimiter_of number = cond (nat_lt number 8) (option.Some (slice_index_or delimiters number None)) option.None

-- what stands before the list of a group, and after it
abbrev pub lhs : Delimiter → List ℕ
lhs None = []
lhs Space = 32 ∷ []
lhs Parenthesis = 40 ∷ []
lhs Bracket = 91 ∷ []
lhs Brace = 123 ∷ []
lhs RangeBracket = 91 ∷ []
lhs Component = []
lhs Concatenation = []

abbrev pub rhs : Delimiter → List ℕ
rhs None = []
rhs Space = 32 ∷ []
rhs Parenthesis = 41 ∷ []
rhs Bracket = 93 ∷ []
rhs Brace = 125 ∷ []
rhs RangeBracket = 93 ∷ []
rhs Component = 44 ∷ []
rhs Concatenation = 59 ∷ []

-- the bytes of a short text
abbrev pub bytes_of : ShortText → List ℕ
bytes_of text = flat_text text

-- the items of a list, in their order
abbrev pub items_of : ℕ → List Item → List Item
items_of list items = filter (λ item. nat_eq item.list list) items

-- an item as text, where the texts of lists are given
abbrev pub item_text : (ℕ → List ℕ) → Text → List ℕ
item_text lists (Chars text) = bytes_of text
item_text lists (Group delimiter child) = lhs delimiter ++ (lists child ++ rhs delimiter)

-- the text of a list, with groups down to some depth
unfoldable pub flat : ℕ → List Item → ℕ → List ℕ
flat zero items list = []
flat (suc depth) items list = flat_map (λ item. item_text (flat depth items) item.text) (items_of list items)

-- the text of a list. A child has a greater number than the list that it stands in, and there are 256 lists: no group lies deeper
unfoldable pub flattened : List Item → ℕ → List ℕ
flattened items list = flat 256 items list

-- whether the list stands in a group
abbrev pub child_of : ℕ → Text → Bool
child_of list (Chars text) = false
child_of list (Group delimiter child) = child == list

abbrev pub taken_in : ℕ → List Item → Bool
taken_in list items = list_any (λ item. child_of list item.text) items

-- the child of a group is one of the lists, and has a greater number
abbrev pub child_above : ℕ → Text → Bool
child_above list (Chars text) = true
child_above list (Group delimiter child) = nat_lt list child && nat_lt child 256

abbrev pub every_child_above : List Item → Bool
every_child_above items = list_all (λ item. child_above item.list item.text) items

-- the list that item i stands in; past the last item, 256
abbrev pub list_at : List Item → ℕ → ℕ
list_at items i = slice_index_or (map (λ item. item.list) items) i 256

-- items are sorted by list
abbrev pub Sorted : List Item → Type 0
Sorted items = (i j : ℕ) → i < j → nat_le (list_at items i) (list_at items j) ≡ true
