use Rattle.std.proofs.Common.{◌≡◌, ℕ, ◌+◌, ◌≤◌, List, ◌++◌, length, get_or, take}
use Rattle.pool.specs.declared.entry.Entry.{Entry}
use Rattle.pool.specs.Firsts.{firsts}
use Rattle.pool.specs.Held.{meanings}
use Rattle.pool.specs.Pools.{entries_of, pool_keys, Sound}
use Rattle.pool.proofs.pool.Pool.insert_all.Given as goal

abbrev pub invariant-loop-key : goal.invariant-loop-key
invariant-loop-key g l =
    Sound g.K.Key.order g.K.Key.meaning g.K.Key.reach l.parts l.self
    × (l.initial.self.used ≤ l.self.used)
    × (l.self.used ≤ l.initial.self.used + l.key-index)
    × (length (entries_of l.self) ≡ length (entries_of l.initial.self))
    × (l.self.entries.ghost_name ≡ l.initial.self.entries.ghost_name)
    × ((i : ℕ) (d : Entry g.row.K.Denot g.row.M.Denot) → l.self.used ≤ i → get_or (entries_of l.self) i d ≡ get_or (entries_of l.initial.self) i d)
    × ((series : List g.K.Key.Meaning) → pool_keys g.K.Key.meaning l.parts l.initial.self ≡ firsts g.K.Key.order series → pool_keys g.K.Key.meaning l.parts l.self ≡ firsts g.K.Key.order (series ++ meanings g.K.Key.meaning l.parts (take l.key-index l.keys)))
