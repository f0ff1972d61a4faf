use Rattle.std.proofs.Common.{◌≡◌, ℕ, ◌+◌, ◌-◌, ◌*◌, ◌/◌, ◌%◌, ◌^◌, ◌<◌, ◌≤◌, min, false, cond, List, length, get_or, sym, ap, ◌∙◌, ⊎_elim, arith}
use Rattle.std.proofs.lemmas.List.{get_or_past}
use Rattle.std.proofs.lemmas.Bool.{cases_lt, cond-false, cond-true}
use Rattle.bits.specs.Bit.{bit, within}
use Rattle.bits.proofs.BitLaws.{bit_mod, bit_shr}
use Rattle.host.specs.Rows.{byte_bit}
use Rattle.host.proofs.RowLaws.{by_place, within_above, within_below, within_true}
use Rattle.host.proofs.in_bytes.store.Goals as goal

pub returns : goal.returns
returns c =
    let bs : List ℕ = c.args.bytes.now in
    let now : List ℕ = c.put_eight.new.bytes in
    let from : ℕ = c.args.from in
    let raw : ℕ = c.mirrored.result in
    let value : ℕ = c.args.value in
    let n : ℕ = min 64 (8 * (length bs - from)) in
    let held : (m : ℕ) → m < length bs → get_or now m 0 ≡ cond (within from 8 m) (raw / 2 ^ (8 * (m - from)) % 256) (get_or bs m 0) =
    c.put_eight.ensures.bytes in
    let same : (p : ℕ) → within from 8 (p / 8) ≡ false → p / 8 < length bs → byte_bit now p ≡ byte_bit bs p =
    λ p t h. ap (λ (x : ℕ). bit x (7 - p % 8))
    (held (p / 8) h ∙ cond-false (within from 8 (p / 8)) (raw / 2 ^ (8 * (p / 8 - from)) % 256) (get_or bs (p / 8) 0) t) in
    record {
      stored = λ p.
          by_place (λ q. byte_bit now p ≡ cond (within (8 * from) n p) (bit value (p - 8 * from)) (byte_bit bs p)) (8 * from) n p
          (λ a. same p (within_below from 8 (p / 8) (omega arith)) (omega arith)
          ∙ sym (cond-false (within (8 * from) n p) (bit value (p - 8 * from)) (byte_bit bs p) (within_below (8 * from) n p a)))
          (λ a b.
          let m : ℕ = p / 8 in
          let x : ℕ = raw / 2 ^ (8 * (m - from)) in
          ap (λ (y : ℕ). bit y (7 - p % 8))
          (held m (omega arith) ∙ cond-true (within from 8 m) (x % 256) (get_or bs m 0) (within_true from 8 m (omega arith) (omega arith)))
          ∙ bit_mod x 8 (7 - p % 8) (omega arith) ∙ bit_shr raw (8 * (m - from)) (7 - p % 8)
          ∙ c.mirrored.ensures.bits (8 * (m - from) + (7 - p % 8)) (omega arith) ∙ ap (bit value) (omega arith)
          ∙ sym (cond-true (within (8 * from) n p) (bit value (p - 8 * from)) (byte_bit bs p) (within_true (8 * from) n p a b)))
          (λ a.
          ⊎_elim
          (λ (h : p / 8 < length bs). same p (within_above from 8 (p / 8) (omega arith)) h)
          (λ (h : length bs ≤ p / 8). ap (λ (y : ℕ). bit y (7 - p % 8))
          (get_or_past now (p / 8) 0 (omega (arith, c.put_eight.auto.bytes)) ∙ sym (get_or_past bs (p / 8) 0 h)))
          (cases_lt (p / 8) (length bs))
          ∙ sym (cond-false (within (8 * from) n p) (bit value (p - 8 * from)) (byte_bit bs p) (within_above (8 * from) n p a)));
    }
