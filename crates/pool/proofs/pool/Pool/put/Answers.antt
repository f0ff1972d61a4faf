use Rattle.pool.specs.Pools.{entries_of}
use Rattle.pool.proofs.Changes.{added_from_shifted}
use Rattle.pool.proofs.pool.Pool.put.Goals as goal

pub returns-clause-added : goal.returns-clause-added
returns-clause-added g c =
    let pool = c.args.self.now in
    added_from_shifted c.args.slot pool.used c.shift.new.self.used c.args.key c.args.marks (entries_of pool) (entries_of c.shift.new.self) c.shift.ensures.used c.requires.slot c.requires.room c.shift.ensures.shifted c.index-self-slot.result c.index-self-used.result
