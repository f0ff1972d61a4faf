use Rattle.std.proofs.Common.{◌-◌, ◌≤◌, length}
use Rattle.pool.specs.Held.{keys_of, places_of, Below, Over}
use Rattle.pool.proofs.slot.Search.seek.Given as goal

abbrev pub invariant-loop-low : goal.invariant-loop-low
invariant-loop-low g l =
    (l.low ≤ l.high)
    × (l.high ≤ length l.self.entries.now)
    × Below g.K.Key.order (keys_of g.K.Key.meaning l.self.parts.now l.self.entries.now) (places_of l.self.entries.now) l.low (g.K.Key.meaning l.self.key l.self.own.now)
    × Over g.K.Key.order (keys_of g.K.Key.meaning l.self.parts.now l.self.entries.now) (places_of l.self.entries.now) l.high (g.K.Key.meaning l.self.key l.self.own.now)

abbrev pub decreases-loop-low : goal.decreases-loop-low
decreases-loop-low g l = l.high - l.low
