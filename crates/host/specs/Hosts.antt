-- What the contracts of hosts over a row of bits speak of.
use Rattle.std.specs.Prelude.{◌≡◌, ℕ, ◌+◌, ◌<◌, List, vec_items, Option, ◌≢◌}
use Rattle.host.specs.Parts.{size}
use Rattle.host.specs.Spans.{laid, seen, span_at, start_of, width_at}
use Rattle.host.specs.declared.laying.Laid.{Laid}
use Rattle.host.specs.declared.spans.Span.{Span}

-- the table of places of a host
abbrev pub spans_of : {S : Type 0} → Laid S → List (Option Span)
spans_of h = vec_items h.table.spans

-- where bit `offset` of a variable lies in the row
abbrev pub place_in : List (Option Span) → ℕ → ℕ → ℕ
place_in spans name offset = start_of (span_at spans name) + offset

-- no place of the row belongs to two variables
abbrev pub NoSharedPlace : ℕ → List (Option Span) → Type 0
NoSharedPlace room spans =
    (j k i l : ℕ) → (j ≢ k) → i < size (width_at room spans j) → l < size (width_at room spans k) → place_in spans j i ≢ place_in spans k l

-- no bit of a stored cell belongs to two variables
abbrev pub NoSharedBit : (ℕ → ℕ) → (ℕ → ℕ) → ℕ → List (Option Span) → Type 0
NoSharedBit cell inner room spans =
    (j k i l : ℕ) → (j ≢ k) → i < size (width_at room spans j) → l < size (width_at room spans k)
    → cell (place_in spans j i) ≡ cell (place_in spans k l) → inner (place_in spans j i) ≢ inner (place_in spans k l)

-- places that were laid in a row lie inside it whole
abbrev pub LaidWhole : Type 0
LaidWhole = (room : ℕ) (widths : List ℕ) (k : ℕ) → seen room (laid room 0 widths) k ≡ span_at (laid room 0 widths) k
