use Rattle.std.proofs.Common.{ℕ, ◌+◌, ◌-◌, ◌/◌, ◌<◌, length, Some, sym, ap, ◌∙◌, arith}
use Rattle.pool.specs.Held.{keys_of, places_of}
use Rattle.pool.proofs.Entries.{length_places, place_at}
use Rattle.pool.proofs.Facts.{found_out}
use Rattle.pool.proofs.Slots.{below_more, over_from, number_found}
use Rattle.pool.proofs.slot.Search.seek.Goals as goal

pub loop-low-preserved-in-Less : goal.loop-low-preserved-in-Less
loop-low-preserved-in-Less g c =
    let s = c.args.self.now in
    let mid = c.loop-low.low + (c.loop-low.high - c.loop-low.low) / 2 in
    let in' : mid < length (places_of s.entries.now) = omega (arith, length_places s.entries.now) in (
      omega arith,
      omega arith,
      (λ j d h. below_more g.K.Key.order g.met.K.Key.orders (keys_of g.K.Key.meaning s.parts.now s.entries.now) (places_of s.entries.now) (found_out s.sound).ordered (g.K.Key.meaning s.key s.own.now) mid d in' (sym (c.in-Less.ensures.order d)) j d h),
      c.loop-low.invariant.3,
    )

pub returns-in-Equal : goal.returns-in-Equal
returns-in-Equal g c =
    let s = c.args.self.now in
    let k = g.K.Key.meaning s.key s.own.now in
    let mid = c.loop-low.low + (c.loop-low.high - c.loop-low.low) / 2 in
    let in' : mid < length (places_of s.entries.now) = omega (arith, length_places s.entries.now) in
    record {
      sought = number_found g.K.Key.order g.met.K.Key.orders (keys_of g.K.Key.meaning s.parts.now s.entries.now) (places_of s.entries.now) (found_out s.sound).ordered k mid k in' (sym (c.in-Equal.ensures.order k))
          ∙ ap (λ (n : ℕ). Some n) (place_at s.entries.now mid c.index-self-mid.result (omega arith) ∙ sym c.from_index.ensures.number);
    }

pub loop-low-preserved : goal.loop-low-preserved
loop-low-preserved g c =
    let s = c.args.self.now in
    let mid = c.loop-low.low + (c.loop-low.high - c.loop-low.low) / 2 in
    let in' : mid < length (places_of s.entries.now) = omega (arith, length_places s.entries.now) in (
      omega arith,
      omega arith,
      c.loop-low.invariant.2,
      (λ j d h l. over_from g.K.Key.order g.met.K.Key.orders (keys_of g.K.Key.meaning s.parts.now s.entries.now) (places_of s.entries.now) (found_out s.sound).ordered (g.K.Key.meaning s.key s.own.now) mid d in' (sym (c.in-Greater.ensures.order d)) j d h l),
    )
