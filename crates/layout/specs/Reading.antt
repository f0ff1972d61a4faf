-- Which texts a component may have.
use Rattle.std.specs.Prelude.{ℕ, Bool, true, false, not, ◌&&◌, ◌||◌, List, length, take, Some, None, Option, ◌==◌, int_le, nat_le, nat_lt, slice_index}
use Rattle.std.specs.Ordering.{is_eq}
use Rattle.pool.specs.Words.{by_word}
use Rattle.components.specs.Concatenations.{all_of}
use Rattle.components.specs.declared.ranges.Usb.{Usb}
use Rattle.components.specs.declared.ranges.Usbr.{Usbr}
use Rattle.components.specs.declared.component.Component.{Component}
use Rattle.texts.specs.Tokens.{flattened}
use Rattle.texts.specs.declared.token_tree.Item.{Item}
use Rattle.layout.specs.Mapping.{bound_text, type_text}
use Rattle.layout.specs.declared.handed_names.FnNames.{FnNames}

-- one of the lists, with a text of 1 to 1,024 bytes
abbrev pub reads : List Item → ℕ → Bool
reads lists list = nat_le list 255 && nat_le 1 (length (flattened lists list)) && nat_le (length (flattened lists list)) 1024

-- digits alone
abbrev pub digit : ℕ → Bool
digit byte = nat_le 48 byte && nat_le byte 57

abbrev pub every_digit : List ℕ → Bool
every_digit bytes = all_of digit bytes

-- two texts are the same
abbrev pub same_bytes : List ℕ → List ℕ → Bool
same_bytes a b = is_eq (by_word a b)

-- a text that begins with a function's name and an opening parenthesis
abbrev pub calls : List ℕ → List ℕ → Bool
calls name text =
    nat_lt (length name) (length text) && same_bytes (take (length name) text) name && slice_index text (length name) == 40

-- a text that a bound may not have, since it would be taken for a number or for a call of its own
abbrev pub reserved : FnNames → List ℕ → Bool
reserved f text =
    every_digit text || calls f.get_bw.now text || calls f.usize_sub.now text || calls f.usize_add.now text

-- the list of a variable, and that of a bound, has a text that it may have; without a list there is nothing to read
abbrev pub variable_reads : List Item → Option ℕ → Bool
variable_reads lists None = true
variable_reads lists (Some list) = reads lists list

abbrev pub bound_reads : FnNames → List Item → Option ℕ → Bool
bound_reads f lists None = true
bound_reads f lists (Some list) = reads lists list && not (reserved f (flattened lists list))

-- all texts of a component are such
abbrev pub component_reads : FnNames → List Item → Component ℕ → Bool
component_reads f lists c =
    variable_reads lists (type_text c.c_type) && bound_reads f lists (bound_text c.range.start) && bound_reads f lists (bound_text c.range.end)

-- two bounds have the same text: none in both, or two lists with the same text of at most 1,024 bytes. A list that is
-- not there has no text
abbrev pub same_lists : List Item → ℕ → ℕ → Bool
same_lists lists a b =
    nat_le a 255 && nat_le b 255 && (a == b || (nat_le (length (flattened lists a)) 1024 && nat_le (length (flattened lists b)) 1024 && same_bytes (flattened lists a) (flattened lists b)))

abbrev pub same_text : List Item → Option ℕ → Option ℕ → Bool
same_text lists None None = true
same_text lists None (Some b) = false
same_text lists (Some a) None = false
same_text lists (Some a) (Some b) = same_lists lists a b

-- a range whose bounds have the same text, and whose end lies before its start
abbrev pub ends_before : List Item → Option (Usb ℕ) → Option (Usb ℕ) → Bool
ends_before lists None end = false
ends_before lists (Some start) None = false
ends_before lists (Some start) (Some end) = not (int_le start.x end.x) && same_text lists start.s end.s

abbrev pub reversed : List Item → Usbr ℕ → Bool
reversed lists r = ends_before lists r.start r.end
