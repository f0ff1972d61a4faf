use Rattle.std.proofs.Common.{◌≡◌, ℕ, ◌+◌, ◌-◌, ◌*◌, ◌/◌, ◌%◌, ◌^◌, ◌<◌, ◌≤◌, min, Bool, cond, ltb, ap, ◌∙◌, ap₂, arith, shl_exact, shr_lt}
use Prim.Native.Nat.{differ}
use lib.Bits.{bit_and, bit_xor, and_le_r, and_mask, xor_lt}
use Rattle.std.proofs.lemmas.Nat.{mod_below}
use Rattle.std.proofs.lemmas.Bool.Decides.{nat_tests}
use Rattle.bits.specs.Bit.{bit, pair_bit, within}
use Rattle.bits.proofs.BitLaws.{bit-and, bit_below, bit_halves, bit_shl, bit-xor, chosen}
use Rattle.bits.proofs.spliced.Goals as goal

-- the 128 bits with the part changed
abbrev new : (old mask shifted : ℕ) → ℕ
new old mask shifted = bit_xor old (bit_and (bit_xor old shifted) mask)

new_below : (old mask shifted : ℕ) → old < 2 ^ 128 → mask < 2 ^ 128 → new old mask shifted < 2 ^ 128
new_below old mask shifted h l =
    xor_lt 128 old (bit_and (bit_xor old shifted) mask) h (omega (arith, and_le_r (bit_xor old shifted) mask, l))

new_bit : (old mask shifted i : ℕ) (t : Bool) → bit mask i ≡ cond t 1 0 → bit (new old mask shifted) i ≡ cond t (bit shifted i) (bit old i)
new_bit old mask shifted i t e =
    bit-xor old (bit_and (bit_xor old shifted) mask) i
    ∙ ap (differ (bit old i)) (bit-and (bit_xor old shifted) mask i ∙ ap₂ min (bit-xor old shifted i) e)
    ∙ chosen t (bit old i) (bit shifted i) (bit_below old i) (bit_below shifted i)

-- a mask of `n` ones, shifted: ones within the part
shifted_ones : (ones at n i : ℕ) → ((k : ℕ) → bit ones k ≡ cond (ltb k n) 1 0) → bit (ones * 2 ^ at) i ≡ cond (within at n i) 1 0
shifted_ones ones at n i h =
    bit_shl ones at i ∙ ap (λ (x : ℕ). cond (ltb i at) 0 x) (h (i - at)) ∙ grind (arith, nat_tests)

-- a shifted value, seen through the part
shifted_value : (value old at n i : ℕ) → cond (within at n i) (bit (value * 2 ^ at) i) old ≡ cond (within at n i) (bit value (i - at)) old
shifted_value value old at n i =
    ap (λ (x : ℕ). cond (within at n i) x old) (bit_shl value at i) ∙ grind (arith, nat_tests)

pub overflow_cast-result-2 : goal.overflow_cast-result-2
overflow_cast-result-2 c =
    let old : ℕ = c.joined-old.result in
    let mask : ℕ = c.ones.result * 2 ^ c.args.shift % 2 ^ 128 in
    let shifted : ℕ = c.args.value * 2 ^ c.args.shift % 2 ^ 128 in
    let l : mask < 2 ^ 128 = mod_below (c.ones.result * 2 ^ c.args.shift) (2 ^ 128) (omega arith) in
    let f : new old mask shifted / 2 ^ 64 < 2 ^ 64 = shr_lt 64 64 (new_below old mask shifted c.joined-old.type_inv l) in
    record { fits = f }

pub returns : goal.returns
returns c =
    let old : ℕ = c.joined-old.result in
    let at : ℕ = c.args.shift in
    let n : ℕ = c.args.count in
    let value : ℕ = c.args.value in
    let v : value < 2 ^ 64 = omega arith in
    let a : 64 + at ≤ 128 = omega arith in
    let mask : ℕ = c.ones.result * 2 ^ at % 2 ^ 128 in
    let shifted : ℕ = value * 2 ^ at % 2 ^ 128 in
    let m : mask ≡ c.ones.result * 2 ^ at = shl_exact 64 at 128 c.ones.type_inv a in
    let s : shifted ≡ value * 2 ^ at = shl_exact 64 at 128 v a in
    record {
      bits = λ i.
          ap (λ (x : ℕ). pair_bit x (new old mask shifted / 2 ^ 64) i) (and_mask (new old mask shifted) 64)
          ∙ bit_halves (new old mask shifted) i
          ∙ new_bit old mask shifted i (within at n i)
          (ap (λ (x : ℕ). bit x i) m ∙ shifted_ones c.ones.result at n i c.ones.ensures.bits)
          ∙ ap₂ (λ (x y : ℕ). cond (within at n i) (bit x i) y) s (c.joined-old.ensures.bits i)
          ∙ shifted_value value (pair_bit c.args.low c.args.high i) at n i;
    }
