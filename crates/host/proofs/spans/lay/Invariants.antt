-- The spans so far are the places, and what is left to lay gives the others.
use Rattle.std.proofs.Common.{◌≡◌, ℕ, ◌+◌, ◌<◌, ◌≤◌, drop}
use Rattle.host.specs.Spans.{laid, span_at}
use Rattle.host.proofs.spans.lay.Given as goal

abbrev pub invariant-loop-i : goal.invariant-loop-i
invariant-loop-i l =
    (l.at ≤ l.room)
    × ((k : ℕ) → k < l.i → span_at l.spans k ≡ span_at (laid l.room 0 l.widths) k)
    × ((k : ℕ) → span_at (laid l.room l.at (drop l.i l.widths)) k ≡ span_at (laid l.room 0 l.widths) (l.i + k))
