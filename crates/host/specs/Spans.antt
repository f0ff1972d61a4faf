-- Variables laid end to end in a row of bits.
use Rattle.std.specs.Prelude.{◌≡◌, ℕ, ◌+◌, ◌-◌, ◌<◌, min, Bool, true, false, cond, ◌&&◌, List, [], ◌∷◌, Some, None, Option, nat_le, nat_lt, slice_index_or}
use Rattle.std.proofs.Common.{arith}
use Rattle.host.specs.declared.spans.Span.{Span}

-- whether a variable of this width has its place from `at` on, in a row of `room` bits
abbrev pub fits : ℕ → ℕ → ℕ → Bool
fits room at width = nat_le 1 width && nat_le width 65536 && nat_le (at + width) room

-- the place that it gets there, if any
abbrev pub placed : ℕ → ℕ → ℕ → Option Span
placed room at w = cond (fits room at w) (Some (record { start = at; width = w })) None

-- variables of these widths, laid end to end from `at` on: one that has no place takes no bits
abbrev pub laid : ℕ → ℕ → List ℕ → List (Option Span)
laid room at [] = []
laid room at (w ∷ ws) = placed room at w ∷ laid room (at + cond (fits room at w) w 0) ws

-- the place of variable k in a table
abbrev pub span_at : List (Option Span) → ℕ → Option Span
span_at spans k = slice_index_or spans k None

-- what of a place that starts inside a row of `room` bits lies there
abbrev pub clipped : ℕ → Span → Span
clipped room s = record { start = s.start; width = min s.width (room - s.start) }

-- what of a place lies inside a row of `room` bits
abbrev pub lies : ℕ → Option Span → Option Span
lies room None = None
lies room (Some s) = cond (nat_lt s.start room) (Some (clipped room s)) None

-- the place of variable k, as far as it lies inside the row
abbrev pub seen : ℕ → List (Option Span) → ℕ → Option Span
seen room spans k = lies room (span_at spans k)

abbrev pub width_of : Option Span → Option ℕ
width_of None = None
width_of (Some s) = Some s.width

abbrev pub start_of : Option Span → ℕ
start_of None = 0
start_of (Some s) = s.start

-- bit i of the variable at a place of a row; 0 past its end
abbrev pub shown : Option Span → (ℕ → ℕ) → ℕ → ℕ
shown None row i = 0
shown (Some s) row i = cond (nat_lt i s.width) (row (s.start + i)) 0

-- what a row shows is as small as the row's bits
pub shown_below : (s : Option Span) (row : ℕ → ℕ) (i : ℕ) → ((p : ℕ) → row p < 2) → shown s row i < 2
shown_below None row i h = omega arith
shown_below (Some s) row i h =
    elim (nat_lt i s.width) as (λ b. cond b (row (s.start + i)) 0 < 2) [ true ↦ h (s.start + i) | false ↦ omega arith ]

-- the variables of a table, in a row of `room` bits: the width of variable k, and its bit i
abbrev pub width_at : ℕ → List (Option Span) → ℕ → Option ℕ
width_at room spans k = width_of (seen room spans k)

abbrev pub bit_at : ℕ → List (Option Span) → (ℕ → ℕ) → ℕ → ℕ → ℕ
bit_at room spans row k i = shown (seen room spans k) row i

-- a variable has 1 to 65,536 bits
abbrev pub sound : Option Span → Bool
sound None = true
sound (Some s) = nat_le 1 s.width && nat_le s.width 65536

-- the first ends before the second begins
abbrev pub before : Option Span → Option Span → Bool
before None t = true
before (Some s) None = true
before (Some s) (Some t) = nat_le (s.start + s.width) t.start

-- every variable of a table is of a lawful width
abbrev pub AllSound : List (Option Span) → Type 0
AllSound spans = (k : ℕ) → sound (span_at spans k) ≡ true

-- the variables of a table lie one after another
abbrev pub InOrder : List (Option Span) → Type 0
InOrder spans = (j k : ℕ) → j < k → before (span_at spans j) (span_at spans k) ≡ true
