use Rattle.std.proofs.Common.{◌≡◌, ℕ, ◌+◌, ◌-◌, ◌*◌, ◌/◌, ◌%◌, ◌^◌, ◌<◌, ◌≤◌, ltb, List, length, get_or, sym, ap, ◌∙◌, subst, ap₂, ⊎_elim, lt_of_lt_of_le, arith, pow_mono, pow-add, shl_exact}
use lib.Bits.{bit_or, or_shifted_r}
use lib.Arith.{digits_lt}
use Rattle.std.proofs.lemmas.List.{get_or_past}
use Rattle.std.proofs.lemmas.Bool.{cases_lt, cond-false, cond-true, le-ltb, lt-ltb}
use Rattle.bits.specs.Bit.{bit}
use Rattle.bits.proofs.BitLaws.{bit_join, bit_past}
use Rattle.host.proofs.in_bytes.few.Goals as goal
use Rattle.host.proofs.in_bytes.few.Goals.{then-j-bytes, else-j-bytes}

-- one byte more above the others
more : (raw byte j : ℕ) → raw < 2 ^ (8 * j) → byte < 256 → j < 8 → bit_or raw (byte * 2 ^ (8 * j) % 2 ^ 64) ≡ byte * 2 ^ (8 * j) + raw
more raw byte j h b l =
    ap (bit_or raw) (shl_exact 8 (8 * j) 64 b (omega arith)) ∙ or_shifted_r byte (8 * j) raw h

more_below : (raw byte j : ℕ) → raw < 2 ^ (8 * j) → byte < 256 → byte * 2 ^ (8 * j) + raw < 2 ^ (8 * (j + 1))
more_below raw byte j h b =
    let e : 8 + 8 * j ≡ 8 * (j + 1) = omega arith in
    subst (λ (x : ℕ). byte * 2 ^ (8 * j) + raw < x) (sym (pow-add 2 8 (8 * j)) ∙ ap (λ (x : ℕ). 2 ^ x) e) (digits_lt b h)

pub loop-j-preserved : goal.loop-j-preserved
loop-j-preserved c =
    let bs : List ℕ = c.args.bytes.now in
    let j : ℕ = c.loop-j.j in
    let raw : ℕ = c.loop-j.raw in
    let byte : ℕ = get_or bs j 0 in
    let b : byte < 256 = (c.type_inv.bytes j).fits in
    let h : raw < 2 ^ (8 * j) = c.loop-j.invariant.0 in
    let l : j < 8 = c.loop-j-test.true in
    elim c.if-j-bytes.branch [
      | then-j-bytes w ↦
          let e : c.if-j-bytes.raw ≡ byte * 2 ^ (8 * j) + raw = w.raw-is ∙ more raw byte j h b l in (
            subst (λ (x : ℕ). x < 2 ^ (8 * (j + 1))) (sym e) (more_below raw byte j h b),
            λ i k. ap (λ (x : ℕ). bit x i) e ∙ bit_join byte (8 * j) raw i h
                ∙ ⊎_elim
                (λ (a : i < 8 * j). cond-true (ltb i (8 * j)) (bit raw i) (bit byte (i - 8 * j)) (lt-ltb i (8 * j) a) ∙ c.loop-j.invariant.1 i a)
                (λ (a : 8 * j ≤ i). cond-false (ltb i (8 * j)) (bit raw i) (bit byte (i - 8 * j)) (le-ltb i (8 * j) a)
                ∙ ap₂ (λ (x y : ℕ). bit (get_or bs x 0) y) (omega arith) (omega arith))
                (cases_lt i (8 * j)),
          )
      | else-j-bytes w ↦
          let past : length bs ≤ j = omega (arith, w.if-j-bytes.false) in (
            subst (λ (x : ℕ). x < 2 ^ (8 * (j + 1))) (sym w.raw-is) (lt_of_lt_of_le h (pow_mono (omega arith))),
            λ i k. ap (λ (x : ℕ). bit x i) w.raw-is
                ∙ ⊎_elim
                (λ (a : i < 8 * j). c.loop-j.invariant.1 i a)
                (λ (a : 8 * j ≤ i). bit_past raw (8 * j) i h a
                ∙ sym (ap (λ (x : ℕ). bit x (i % 8)) (get_or_past bs (i / 8) 0 (omega arith)) ∙ bit_past 0 0 (i % 8) (omega arith) (omega arith)))
                (cases_lt i (8 * j)),
          )
    ]
