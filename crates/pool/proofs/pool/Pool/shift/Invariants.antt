use Rattle.std.proofs.Common.{◌≡◌, ◌≤◌}
use Rattle.pool.specs.Moved.{Shifted}
use Rattle.pool.specs.Pools.{entries_of}
use Rattle.pool.proofs.pool.Pool.shift.Given as goal

abbrev pub invariant-loop-at : goal.invariant-loop-at
invariant-loop-at g l =
    (l.slot ≤ l.at)
    × (l.self.used ≡ l.initial.self.used)
    × (l.self.entries.ghost_name ≡ l.initial.self.entries.ghost_name)
    × Shifted l.at l.initial.self.used (entries_of l.initial.self) (entries_of l.self)
