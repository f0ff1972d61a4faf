use Rattle.std.proofs.Common.{ℕ, ◌+◌, ◌-◌, ◌^◌, ltb, sym, ◌∙◌, ⊎_elim, arith}
use Rattle.std.proofs.lemmas.Bool.{cases_lt, cond-true, cond-false, lt-ltb, le-ltb}
use Rattle.bits.proofs.BitLaws.{bit_shr, bit_ones, bit_past}
use Rattle.bits.proofs.ones.Goals as goal

pub returns : goal.returns
returns c =
    let n : ℕ = c.args.count in
    record {
      bits = λ i.
          bit_shr (2 ^ 64 - 1) (64 - n) i
          ∙ ⊎_elim
          (λ h. bit_ones 64 (64 - n + i) (omega arith) ∙ sym (cond-true (ltb i n) 1 0 (lt-ltb i n h)))
          (λ h. bit_past (2 ^ 64 - 1) 64 (64 - n + i) (omega arith) (omega arith) ∙ sym (cond-false (ltb i n) 1 0 (le-ltb i n h)))
          (cases_lt i n);
    }
