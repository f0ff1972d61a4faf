-- Bits of numbers, and of two words side by side.
use Rattle.std.specs.Prelude.{ℕ, ◌+◌, ◌-◌, ◌*◌, ◌/◌, ◌%◌, ◌^◌, Bool, cond, ◌&&◌, ◌==◌, nat_le, nat_lt}

-- bit i of a number, the lowest being bit 0
unfoldable pub bit : ℕ → ℕ → ℕ
bit v i = (v / 2 ^ i) % 2

-- whether i is one of the `count` places from `at` on
abbrev pub within : ℕ → ℕ → ℕ → Bool
within at count i = nat_le at i && nat_lt i (at + count)

-- bit i of a word and the one above it: 64 places in the low one, then those of the high one
abbrev pub pair_bit : ℕ → ℕ → ℕ → ℕ
pair_bit low high i = cond (nat_lt i 64) (bit low i) (bit high (i - 64))

-- whether place i is in the lower of two neighbouring groups of `by` places
abbrev pub lower : ℕ → ℕ → Bool
lower by i = i / by % 2 == 0

-- the same place in the neighbouring group of `by` places
abbrev pub neighbour : ℕ → ℕ → ℕ
neighbour by i = cond (lower by i) (i + by) (i - by)

-- the place of bit i once each byte's bits stand the other way round
abbrev pub mirror : ℕ → ℕ
mirror i = i / 8 * 8 + (7 - i % 8)
