use Rattle.std.proofs.Common.{◌≡◌, ℕ, ◌+◌, ◌-◌, ◌*◌, ◌/◌, ◌%◌, ◌<◌, min, cond, List, length, set, ap, ◌∙◌, arith}
use lib.Bits.{bit_and}
use Rattle.bits.specs.Bit.{bit, pair_bit, within}
use Rattle.host.specs.Rows.{byte_bit}
use Rattle.host.proofs.RowLaws.{bytes_pair, bytes_set, counted, pair_low, pair_within, splice_row}
use Rattle.host.proofs.in_bytes.splice.Goals as goal

pub returns-then-shift-count-gt64 : goal.returns-then-shift-count-gt64
returns-then-shift-count-gt64 c =
    let bs : List ℕ = c.args.bytes.now in
    let at : ℕ = c.args.at in
    let from : ℕ = at / 8 in
    let low : ℕ = c.spliced-low.result.0 in
    let high : ℕ = c.spliced-low.result.1 in
    let eight : List ℕ = c.store.new.bytes in
    let l : length eight ≡ length bs = c.store.auto.bytes in
    let h : from + 8 < length bs = omega arith in
    let m : min 64 (8 * (length bs - from)) ≡ 64 = omega arith in
    let cs : List ℕ = set eight (from + 8) (bit_and c.mirrored.result 255) in
    let stored : (q : ℕ) → byte_bit eight q ≡ cond (within (8 * from) 64 q) (bit low (q - 8 * from)) (byte_bit bs q) =
    λ q. c.store.ensures.stored q ∙ ap (λ (x : ℕ). cond (within (8 * from) x q) (bit low (q - 8 * from)) (byte_bit bs q)) m in
    record {
      stored = counted (byte_bit bs) (byte_bit cs) (8 * from + at % 8) at c.args.count c.args.value (omega arith)
          (splice_row (byte_bit bs) (byte_bit cs) (8 * from) 72 (at % 8) c.args.count c.args.value
          (pair_bit c.load-low.result c.mirrored-ninth.result) (pair_bit low high)
          (λ j k. bytes_pair bs from c.load-low.result c.mirrored-ninth.result j c.load-low.ensures.bits c.mirrored-ninth.ensures.bits k)
          (λ p. bytes_set bs eight from low high c.mirrored.result p l h stored c.mirrored.ensures.bits)
          c.spliced-low.ensures.bits (omega arith));
    }

pub returns-else-shift-count-gt64 : goal.returns-else-shift-count-gt64
returns-else-shift-count-gt64 c =
    let bs : List ℕ = c.args.bytes.now in
    let at : ℕ = c.args.at in
    let from : ℕ = at / 8 in
    let low : ℕ = c.spliced-low-else-shift-count-gt64.result.0 in
    let high : ℕ = c.spliced-low-else-shift-count-gt64.result.1 in
    let n : ℕ = min 64 (8 * (length bs - from)) in
    let cs : List ℕ = c.store-else-shift-count-gt64.new.bytes in
    record {
      stored = counted (byte_bit bs) (byte_bit cs) (8 * from + at % 8) at c.args.count c.args.value (omega arith)
          (splice_row (byte_bit bs) (byte_bit cs) (8 * from) n (at % 8) c.args.count c.args.value
          (pair_bit c.load-low.result 0) (pair_bit low high)
          (λ j k. let l : j < 64 = omega arith in pair_low c.load-low.result 0 j l ∙ c.load-low.ensures.bits j l)
          (λ p. c.store-else-shift-count-gt64.ensures.stored p ∙ pair_within low high (8 * from) n p (byte_bit bs p) (omega arith))
          c.spliced-low-else-shift-count-gt64.ensures.bits (omega arith));
    }
