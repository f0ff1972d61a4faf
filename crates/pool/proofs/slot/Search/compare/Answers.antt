use Rattle.std.proofs.Common.{arith}
use Rattle.pool.proofs.Entries.{place_within, key_in_at}
use Rattle.pool.proofs.Facts.{found_out}
use Rattle.pool.proofs.slot.Search.compare.Goals as goal

pub offset_bounds-entries-number : goal.offset_bounds-entries-number
offset_bounds-entries-number g c =
    let s = c.args.self.now in omega (arith, place_within g.K.Key.meaning g.K.Key.order s.parts.now s.entries.now (found_out s.sound).ordered c.args.slot c.index-entries-slot.result c.requires.slot)

pub bounds-entries-number : goal.bounds-entries-number
bounds-entries-number g c =
    let s = c.args.self.now in place_within g.K.Key.meaning g.K.Key.order s.parts.now s.entries.now (found_out s.sound).ordered c.args.slot c.index-entries-slot.result c.requires.slot

pub compare-requires-clause-own : goal.compare-requires-clause-own
compare-requires-clause-own g c =
    let s = c.args.self.now in
    let f = found_out s.sound in
    f.reached _ _ (place_within g.K.Key.meaning g.K.Key.order s.parts.now s.entries.now f.ordered c.args.slot c.index-entries-slot.result c.requires.slot)

pub returns : goal.returns
returns g c =
    let s = c.args.self.now in
    record {
      order = λ d. rw (key_in_at g.K.Key.meaning g.K.Key.order s.parts.now s.entries.now (found_out s.sound).ordered c.args.slot c.index-entries-slot.result c.index-entries-number.result d c.requires.slot) c.compare.ensures.order;
    }
