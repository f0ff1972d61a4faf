use Rattle.std.proofs.Common.{ℕ, ◌<◌, set, ap, ◌∙◌, arith}
use Rattle.pool.specs.Pools.{entries_of, pool_marks}
use Rattle.pool.proofs.Facts.{found_out}
use Rattle.pool.proofs.Marked.{keys_marked, marks_marked, findable_marked}
use Rattle.pool.proofs.pool.Pool.set_marks.Goals as goal

pub returns-clause-marks : goal.returns-clause-marks
returns-clause-marks g c =
    let pool = c.args.self.now in
    let e = c.index.ensures.number in
    let in' : c.index.result < pool.used = omega (arith, e, c.requires) in
    marks_marked (entries_of pool) pool.used c.index.result c.args.marks c.index-self-index.result in' pool.within ∙ ap (λ (n : ℕ). set (pool_marks pool) n c.args.marks) e

pub returns-clause-keys : goal.returns-clause-keys
returns-clause-keys g c =
    let pool = c.args.self.now in
    let in' : c.index.result < pool.used = omega (arith, c.index.ensures.number, c.requires) in
    keys_marked (entries_of pool) pool.used c.index.result c.args.marks c.index-self-index.result in' pool.within g.K.Key.meaning

pub returns-clause-sound : goal.returns-clause-sound
returns-clause-sound g c =
    let pool = c.args.self.now in
    let in' : c.index.result < pool.used = omega (arith, c.index.ensures.number, c.requires) in
    λ ps s. ∣ findable_marked (entries_of pool) pool.used c.index.result c.args.marks c.index-self-index.result in' pool.within g.K.Key.order g.K.Key.meaning g.K.Key.reach ps (found_out s) ∣₁
