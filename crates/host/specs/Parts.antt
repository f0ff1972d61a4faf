-- What a host answers about a variable, and when it refuses.
use Rattle.std.specs.Prelude.{◌≡◌, ℕ, ◌+◌, ◌-◌, ◌^◌, Bool, cond, ◌&&◌, List, length, Some, None, Ok, Err, Option, Result, ◌==◌, nat_le, nat_lt, slice_index}
use Rattle.bits.specs.Bit.{bit, within}
use Rattle.host.specs.Refusals.{plain}
use Rattle.host.specs.declared.reasons.Reason.TheVariants.{NoSuchName, PartOutside}
use Rattle.host.specs.declared.reasons.Refusal.{Refusal}

-- how many bits there are: a variable's width, none of a lacking one
abbrev pub size : Option ℕ → ℕ
size None = 0
size (Some width) = width

-- the answer where something is asked for by name
abbrev pub found : Option ℕ → Result ℕ Refusal
found None = Err (plain NoSuchName)
found (Some n) = Ok n

-- number k of a list, where there is one; a number has at most 32 bits
abbrev pub number_at : List ℕ → ℕ → Option ℕ
number_at numbers k = cond (nat_lt k (length numbers) && nat_lt (slice_index numbers k) (2 ^ 32)) (Some (slice_index numbers k)) None

-- a part is 1 to 64 bits that lie inside the variable
abbrev pub inside : ℕ → ℕ → ℕ → Bool
inside width offset count = nat_le 1 count && nat_le count 64 && nat_le (offset + count) width

-- the refusal where a part is not to be had: for want of the variable, or for the part
abbrev pub refused_part : Option ℕ → Refusal
refused_part None = plain NoSuchName
refused_part (Some width) = plain PartOutside

-- how a read or a write of a part is refused, if it is
abbrev pub part_refusal : Option ℕ → ℕ → ℕ → Option Refusal
part_refusal variable offset count = cond (inside (size variable) offset count) None (Some (refused_part variable))

-- a number holds the first `count` bits that `source` gives, and zeros above them
abbrev pub Holds : ℕ → ℕ → (ℕ → ℕ) → Type 0
Holds v count source = (i : ℕ) → bit v i ≡ cond (nat_lt i count) (source i) 0

-- a row after a write of the low bits of `value` to the `count` places from `at` on, if it was accepted: every other bit is as it was
abbrev pub Changed : Bool → ℕ → ℕ → ℕ → (ℕ → ℕ) → (ℕ → ℕ) → Type 0
Changed accepted at count value old new = (p : ℕ) → new p ≡ cond (accepted && within at count p) (bit value (p - at)) (old p)

-- the bits of all variables after such a write to a part of the variable `name`
abbrev pub Written : Bool → ℕ → ℕ → ℕ → ℕ → (ℕ → ℕ → ℕ) → (ℕ → ℕ → ℕ) → Type 0
Written accepted name offset count value old new =
    (k i : ℕ) → new k i ≡ cond (accepted && k == name && within offset count i) (bit value (i - offset)) (old k i)

-- widths or numbers that stayed
abbrev pub Same : (ℕ → Option ℕ) → (ℕ → Option ℕ) → Type 0
Same old new = (k : ℕ) → new k ≡ old k
