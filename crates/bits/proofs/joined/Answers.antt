use Rattle.std.proofs.Common.{ℕ, ◌^◌, ◌<◌, ap, ◌∙◌, arith, shl_exact}
use lib.Bits.{bit_or, or_shifted}
use Rattle.bits.specs.Bit.{bit}
use Rattle.bits.proofs.BitLaws.{bit_join}
use Rattle.bits.proofs.joined.Goals as goal

pub returns : goal.returns
returns c =
    let low : ℕ = c.args.low in
    let high : ℕ = c.args.high in
    let l : low < 2 ^ 64 = omega arith in
    let h : high < 2 ^ 64 = omega arith in
    record {
      bits = λ i.
          ap (λ (x : ℕ). bit (bit_or x low) i) (shl_exact 64 64 128 h (omega arith))
          ∙ ap (λ (x : ℕ). bit x i) (or_shifted high 64 low l) ∙ bit_join high 64 low i l;
    }
