-- What keys are made of: a stretch of parts, and orders.
use Rattle.std.specs.Prelude.{ℕ, List, take, drop}
use Rattle.std.specs.declared.cmp.Ordering.{Ordering}
use Rattle.std.specs.Cmp.Lexicographic.{slice_cmp}
use Rattle.std.specs.Ordering.{nat_cmp}

-- so many parts from a place on
abbrev pub stretch_of : {P : Type 0} → ℕ → ℕ → List P → List P
stretch_of start len parts = take len (drop start parts)

-- numbers by size
abbrev pub by_number : ℕ → ℕ → Ordering
by_number x y = nat_cmp x y

-- lists of numbers by the first number in which they differ, and the front of a list before the list
abbrev pub by_word : List ℕ → List ℕ → Ordering
by_word xs ys = slice_cmp nat_cmp xs ys
