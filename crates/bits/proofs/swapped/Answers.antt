use Rattle.std.proofs.Common.{◌≡◌, ℕ, ◌+◌, ◌-◌, ◌*◌, ◌/◌, ◌%◌, ◌^◌, ◌<◌, ◌≤◌, min, max, true, false, cond, ltb, sym, ap, ◌∙◌, ap₂, ⊎_elim, arith}
use native.Mathlib.Nat.{div-eq_of_lt, div-eq-sub-div}
use lib.Bits.{bit_and}
use Rattle.std.proofs.lemmas.Bool.{cases_Bool, cases_lt, cond-false, cond-true, eq-eqb, eqb-false, eqb-true, le-ltb, lt-ltb, ne_eqb}
use Rattle.bits.specs.Bit.{bit, lower, neighbour}
use Rattle.bits.proofs.BitLaws.{bit-and, bit_below, bit_mod, bit-or, bit_shl, bit_shr}
use Rattle.bits.proofs.swapped.Goals as goal

-- the bit that comes down from the neighbour above, or the one that comes up from below
either : (x mask by i : ℕ) → 1 ≤ by → bit mask i ≡ cond (lower by i) 1 0 → (by ≤ i → bit mask (i - by) ≡ cond (lower by (i - by)) 1 0)
    → max (min (bit x (by + i)) (bit mask i)) (cond (ltb i by) 0 (min (bit x (i - by)) (bit mask (i - by)))) ≡ bit x (neighbour by i)
either x mask by i p e f =
    let a : bit x (by + i) < 2 = bit_below x (by + i) in
    let b : bit x (i - by) < 2 = bit_below x (i - by) in
    let s : by + i ≡ i + by = omega arith in
    ⊎_elim
    (λ (h : i < by).
    let q : i / by ≡ 0 = div-eq_of_lt h in
    let t : lower by i ≡ true = eq-eqb (i / by % 2) 0 (omega arith) in
    let m : bit mask i ≡ 1 = e ∙ cond-true (lower by i) 1 0 t in
    ap (max (min (bit x (by + i)) (bit mask i))) (cond-true (ltb i by) 0 (min (bit x (i - by)) (bit mask (i - by))) (lt-ltb i by h))
    ∙ omega arith ∙ ap (bit x) (s ∙ sym (cond-true (lower by i) (i + by) (i - by) t)))
    (λ (h : by ≤ i).
    let q : i / by ≡ (i - by) / by + 1 = div-eq-sub-div p h in
    ap (max (min (bit x (by + i)) (bit mask i))) (cond-false (ltb i by) 0 (min (bit x (i - by)) (bit mask (i - by))) (le-ltb i by h))
    ∙ ⊎_elim
    (λ (t : lower by i ≡ true).
    let z : i / by % 2 ≡ 0 = eqb-true (i / by % 2) 0 t in
    let m : bit mask i ≡ 1 = e ∙ cond-true (lower by i) 1 0 t in
    let u : lower by (i - by) ≡ false = ne_eqb ((i - by) / by % 2) 0 (omega arith) in
    let k : bit mask (i - by) ≡ 0 = f h ∙ cond-false (lower by (i - by)) 1 0 u in
    omega arith ∙ ap (bit x) (s ∙ sym (cond-true (lower by i) (i + by) (i - by) t)))
    (λ (t : lower by i ≡ false).
    let z : i / by % 2 ≡ 0 → ⊥ = eqb-false (i / by % 2) 0 t in
    let m : bit mask i ≡ 0 = e ∙ cond-false (lower by i) 1 0 t in
    let u : lower by (i - by) ≡ true = eq-eqb ((i - by) / by % 2) 0 (omega arith) in
    let k : bit mask (i - by) ≡ 1 = f h ∙ cond-true (lower by (i - by)) 1 0 u in
    omega arith ∙ ap (bit x) (sym (cond-false (lower by i) (i + by) (i - by) t)))
    (cases_Bool (lower by i)))
    (cases_lt i by)

pub returns : goal.returns
returns c =
    let x : ℕ = c.args.x in
    let mask : ℕ = c.args.mask in
    let by : ℕ = c.args.by in
    record {
      bits = λ i h.
          bit-or (bit_and (x / 2 ^ by) mask) (bit_and x mask * 2 ^ by % 2 ^ 64) i
          ∙ ap₂ max
          (bit-and (x / 2 ^ by) mask i ∙ ap (λ (y : ℕ). min y (bit mask i)) (bit_shr x by i))
          (bit_mod (bit_and x mask * 2 ^ by) 64 i h ∙ bit_shl (bit_and x mask) by i
          ∙ ap (λ (y : ℕ). cond (ltb i by) 0 y) (bit-and x mask (i - by)))
          ∙ either x mask by i c.requires.by.0 (c.requires.mask i h) (λ l. c.requires.mask (i - by) (omega arith));
    }
