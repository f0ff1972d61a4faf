-- The names that a component brings.
use Rattle.std.specs.Prelude.{ℕ, Bool, false, cond, not, ◌&&◌, List, length, Some, None, Option, nat_le}
use Rattle.std.specs.Ordering.{is_eq}
use Rattle.pool.specs.Firsts.{known, number_in, with_key}
use Rattle.pool.specs.Words.{by_word}
use Rattle.names.specs.Names.{total}
use Rattle.names.specs.declared.numbers.PName.{PName}
use Rattle.components.specs.declared.component.Component.{Component}
use Rattle.layout.specs.Mapping.{bound_text, type_text}

-- the names with one text more, if there is one and it is unknown
abbrev pub with_text : List (List ℕ) → Option (List ℕ) → List (List ℕ)
with_text names None = names
with_text names (Some text) = with_key by_word names text

-- the names after a component: its variable's text comes first, then its start's, then its end's
abbrev pub names_after : List (List ℕ) → Component (List ℕ) → List (List ℕ)
names_after names c =
    with_text (with_text (with_text names (type_text c.c_type)) (bound_text c.range.start)) (bound_text c.range.end)

-- at most 256 names of 16,384 bytes together
abbrev pub names_fit : List (List ℕ) → Bool
names_fit names = nat_le (length names) 256 && nat_le (total names) 16384

-- the number of a name
abbrev pub number_or_0 : Option ℕ → ℕ
number_or_0 None = 0
number_or_0 (Some n) = n

abbrev pub name_of : List (List ℕ) → List ℕ → PName
name_of names text = record { 0 = number_or_0 (number_in by_word names text) }

-- whether both texts are there, and are the same
abbrev pub same_texts : Option (List ℕ) → Option (List ℕ) → Bool
same_texts None b = false
same_texts (Some a) None = false
same_texts (Some a) (Some b) = is_eq (by_word a b)

-- whether the text is there, and unknown
abbrev pub new_text : List (List ℕ) → Option (List ℕ) → Bool
new_text names None = false
new_text names (Some text) = not (known by_word names text)

-- the text, if it is one that is to be kept
abbrev pub kept_if : Bool → Option (List ℕ) → Option (List ℕ)
kept_if keep None = None
kept_if keep (Some text) = cond keep (Some text) None

-- how many texts there are, and how many bytes it has
abbrev pub names_in : Option (List ℕ) → ℕ
names_in None = 0
names_in (Some text) = 1

abbrev pub bytes_in : Option (List ℕ) → ℕ
bytes_in None = 0
bytes_in (Some text) = length text
