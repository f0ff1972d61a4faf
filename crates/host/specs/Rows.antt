-- Rows of bits in stored cells.
use Rattle.std.specs.Prelude.{◌≡◌, ℕ, ◌-◌, ◌*◌, ◌/◌, ◌%◌, ◌^◌, min, List, length, slice_index}
use Rattle.std.proofs.Common.{arith}
use Rattle.bits.specs.Bit.{bit}

-- bit p of a row of cells: `cell p` says in which of them it lies, and `inner p` at which bit there
abbrev pub row_bit : (ℕ → ℕ) → (ℕ → ℕ) → List ℕ → ℕ → ℕ
row_bit cell inner cells p = bit (slice_index cells (cell p)) (inner p)

-- words have 64 bits, filled from the lowest
abbrev pub word_cell : ℕ → ℕ
word_cell p = p / 64

abbrev pub word_inner : ℕ → ℕ
word_inner p = p % 64

-- bytes have eight bits, filled from the highest
abbrev pub byte_cell : ℕ → ℕ
byte_cell p = p / 8

abbrev pub byte_inner : ℕ → ℕ
byte_inner p = 7 - p % 8

-- no two places of a row are one bit of one word, or of one byte
pub words_apart : (p q : ℕ) → word_cell p ≡ word_cell q → word_inner p ≡ word_inner q → p ≡ q
words_apart p q a b = omega arith

pub bytes_apart : (p q : ℕ) → byte_cell p ≡ byte_cell q → byte_inner p ≡ byte_inner q → p ≡ q
bytes_apart p q a b = omega arith

abbrev pub word_bit : List ℕ → ℕ → ℕ
word_bit = row_bit word_cell word_inner

abbrev pub byte_bit : List ℕ → ℕ → ℕ
byte_bit = row_bit byte_cell byte_inner

-- how many bits a row of words or bytes has, as far as positions of 64 bits reach
abbrev pub words_room : List ℕ → ℕ
words_room words = 64 * min (length words) (2 ^ 58 - 1)

abbrev pub bytes_room : List ℕ → ℕ
bytes_room bytes = 8 * min (length bytes) (2 ^ 61 - 1)
