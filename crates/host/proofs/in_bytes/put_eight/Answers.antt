use Rattle.std.proofs.Common.{◌≡◌, ℕ, ◌-◌, ◌*◌, ◌/◌, ◌%◌, ◌^◌, cond, List, get_or, sym, ap, ◌∙◌, arith}
use Rattle.std.proofs.lemmas.Bool.{cond-false}
use Rattle.bits.specs.Bit.{within}
use Rattle.host.proofs.RowLaws.{by_place, le_byte, within_above, within_below}
use Rattle.host.proofs.in_bytes.put_eight.Goals as goal

pub returns-then-bytes-from-ge8 : goal.returns-then-bytes-from-ge8
returns-then-bytes-from-ge8 c =
    let bs : List ℕ = c.args.bytes.now in
    let from : ℕ = c.args.from in
    let raw : ℕ = c.args.raw in
    record {
      bytes = λ m h.
          c.put_whole.ensures.bytes m h ∙ by_place (λ q. cond (within from 8 m) (get_or c.to_le_bytes.result (m - from) 0) (get_or bs m 0) ≡ cond (within from 8 m) (raw / 2 ^ (8 * (m - from)) % 256) (get_or bs m 0)) from 8 m
          (λ a. cond-false (within from 8 m) (get_or c.to_le_bytes.result (m - from) 0) (get_or bs m 0) (within_below from 8 m a)
          ∙ sym (cond-false (within from 8 m) (raw / 2 ^ (8 * (m - from)) % 256) (get_or bs m 0) (within_below from 8 m a)))
          (λ a b. ap (λ (x : ℕ). cond (within from 8 m) x (get_or bs m 0))
          (ap (λ (xs : List ℕ). get_or xs (m - from) 0) c.to_le_bytes.ensures ∙ le_byte raw (m - from) (omega arith)))
          (λ a. cond-false (within from 8 m) (get_or c.to_le_bytes.result (m - from) 0) (get_or bs m 0) (within_above from 8 m a)
          ∙ sym (cond-false (within from 8 m) (raw / 2 ^ (8 * (m - from)) % 256) (get_or bs m 0) (within_above from 8 m a)));
    }
