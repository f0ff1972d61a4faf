-- Numbers as a line has them.
use Rattle.std.specs.Prelude.{ℕ, ◌+◌, ◌-◌, ◌*◌, ◌^◌, Bool, cond, ◌&&◌, List, [], ◌∷◌, length, drop, ℤ, pos, neg_ℤ, Some, None, Option, ◌==◌, nat_le, nat_lt, slice_index}

-- whether a byte lies in a range
abbrev pub in_range : ℕ → ℕ → ℕ → Bool
in_range low high c = nat_le low c && nat_le c high

-- what a digit is worth: '0' to '9', then 'a' to 'f' and 'A' to 'F'
abbrev pub digit_worth : ℕ → Option ℕ
digit_worth c =
    cond (in_range 48 57 c) (Some (c - 48))
    (cond (in_range 97 102 c) (Some (c - 87)) (cond (in_range 65 70 c) (Some (c - 55)) None))

-- a value, where it is below a bound
abbrev pub below : ℕ → Option ℕ → Option ℕ
below bound None = None
below bound (Some n) = cond (nat_lt n bound) (Some n) None

-- one more digit
abbrev pub grow : ℕ → ℕ → Option ℕ → Option ℕ
grow base n None = None
grow base n (Some d) = Some (n * base + d)

-- the number that bytes write in a base, after a number so far; none where one of them is no digit
abbrev pub worth_after : ℕ → Option ℕ → List ℕ → Option ℕ
worth_after base None bytes = None
worth_after base (Some n) [] = Some n
worth_after base (Some n) (c ∷ cs) = worth_after base (grow base n (below base (digit_worth c))) cs

-- the number of at most 64 bits that bytes write in a base, if they write one: at least one digit, and digits alone
abbrev pub numeral : ℕ → List ℕ → Option ℕ
numeral base bytes = cond (length bytes == 0) None (below (2 ^ 64) (worth_after base (Some 0) bytes))

-- the word that `0x` and digits write, if they write one
abbrev pub hex_word : List ℕ → Option ℕ
hex_word bytes =
    cond (slice_index bytes 0 == 48 && slice_index bytes 1 == 120) (numeral 16 (drop 2 bytes)) None

-- a number of 64 bits with its sign, where it fits
abbrev pub positive_fit : Option ℕ → Option ℤ
positive_fit None = None
positive_fit (Some n) = cond (nat_lt n (2 ^ 63)) (Some (pos n)) None

abbrev pub negative_fit : Option ℕ → Option ℤ
negative_fit None = None
negative_fit (Some n) = cond (nat_le n (2 ^ 63)) (Some (neg_ℤ (pos n))) None

-- the signed number that bytes write: `-` (45) or nothing, and a decimal
abbrev pub signed_numeral : List ℕ → Option ℤ
signed_numeral bytes =
    cond (slice_index bytes 0 == 45) (negative_fit (numeral 10 (drop 1 bytes))) (positive_fit (numeral 10 bytes))
