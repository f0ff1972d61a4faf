use Rattle.std.proofs.Common.{ℕ, ◌+◌, ◌/◌, ◌^◌, ◌<◌, min, ltb, ◌∙◌, subst, ap₂}
use Rattle.bits.specs.Bit.{pair_bit}
use Rattle.bits.proofs.BitLaws.{bit-and, bit_shr, bit_below, masked}
use Rattle.bits.proofs.part.Goals as goal

pub returns : goal.returns
returns c =
    let old : ℕ = c.joined.result in
    let mask : ℕ = c.ones.result in
    let at : ℕ = c.args.shift in
    let n : ℕ = c.args.count in
    record {
      bits = λ i.
          bit-and (old / 2 ^ at) mask i
          ∙ ap₂ min (bit_shr old at i ∙ c.joined.ensures.bits (at + i)) (c.ones.ensures.bits i)
          ∙ masked (ltb i n) (pair_bit c.args.low c.args.high (at + i))
          (subst (λ (x : ℕ). x < 2) (c.joined.ensures.bits (at + i)) (bit_below old (at + i)));
    }
