-- What each operation on numbers does to bit i.
use Rattle.std.proofs.Common.{◌≡◌, ℕ, zero, suc, ◌+◌, ◌-◌, ◌*◌, ◌/◌, ◌%◌, ◌^◌, ◌<◌, ◌≤◌, min, max, Bool, true, false, cond, ◌&&◌, ltb, ◌⊎◌, sym, refl, ap, ◌∙◌, subst, inl, inr, ⊎_elim, zero-le, lt_of_lt_of_le, add-zero, mod-lt, zero-lt-suc, arith, pow_pos, pow_mono, shr-shr}
use Prim.Native.Nat.{differ}
use native.Mathlib.Nat.{div-eq_of_lt}
use lib.Bits.{bit_and, bit_or, bit_xor, and_step, or_step, xor_step, and_shr, or_shr, xor_shr}
use lib.Arith.{digits_mod}
use lib.Pow.{field, mod-mod-pow, high, low, ones_split, ones_lt}
use Rattle.std.proofs.lemmas.Bool.{lt-ltb, le-ltb, cases_lt, cond-true, cond-false}
use Rattle.std.proofs.lemmas.Bool.Decides.{Decides-below_and}
use Rattle.bits.specs.Bit.{bit, pair_bit}

two : zero < 2
two = zero-lt-suc 1

pub bit_below : (v i : ℕ) → bit v i < 2
unfolding bit
bit_below v i = mod-lt (v / 2 ^ i) two

pub bit_shr : (v k i : ℕ) → bit (v / 2 ^ k) i ≡ bit v (k + i)
unfolding bit
bit_shr v k i = ap (λ (x : ℕ). x % 2) (shr-shr v k i)

pub bit_mod : (v n i : ℕ) → i < n → bit (v % 2 ^ n) i ≡ bit v i
unfolding bit
bit_mod v n i h =
    let e : n ≡ ((n - suc i) + 1) + i = omega arith in
    ap (λ (m : ℕ). v % 2 ^ m / 2 ^ i % 2) e ∙ ap (λ (x : ℕ). x % 2) (field v ((n - suc i) + 1) i)
    ∙ mod-mod-pow (v / 2 ^ i) (n - suc i) 1

pub bit_past : (v n i : ℕ) → v < 2 ^ n → n ≤ i → bit v i ≡ 0
unfolding bit
bit_past v n i h l = ap (λ (x : ℕ). x % 2) (div-eq_of_lt (lt_of_lt_of_le h (pow_mono l)))

-- two numbers end to end, the lower one of k bits
pub bit_join : (upper k lower i : ℕ) → lower < 2 ^ k → bit (upper * 2 ^ k + lower) i ≡ cond (ltb i k) (bit lower i) (bit upper (i - k))
bit_join upper k lower i l =
    ⊎_elim
    (λ h. sym (bit_mod (upper * 2 ^ k + lower) k i h) ∙ ap (λ (x : ℕ). bit x i) (low upper k l)
    ∙ sym (cond-true (ltb i k) (bit lower i) (bit upper (i - k)) (lt-ltb i k h)))
    (λ h. let e : i ≡ k + (i - k) = omega arith in
    ap (bit (upper * 2 ^ k + lower)) e ∙ sym (bit_shr (upper * 2 ^ k + lower) k (i - k))
    ∙ ap (λ (x : ℕ). bit x (i - k)) (high upper k l)
    ∙ sym (cond-false (ltb i k) (bit lower i) (bit upper (i - k)) (le-ltb i k h)))
    (cases_lt i k)

pub bit_shl : (v k i : ℕ) → bit (v * 2 ^ k) i ≡ cond (ltb i k) 0 (bit v (i - k))
bit_shl v k i =
    ap (λ (x : ℕ). bit x i) (sym (add-zero (v * 2 ^ k))) ∙ bit_join v k 0 i (pow_pos k)
    ∙ ap (λ (x : ℕ). cond (ltb i k) x (bit v (i - k))) (bit_past 0 0 i (zero-lt-suc 0) zero-le)

-- the two halves of a number of 128 bits
pub bit_halves : (v i : ℕ) → pair_bit (v % 2 ^ 64) (v / 2 ^ 64) i ≡ bit v i
bit_halves v i =
    ⊎_elim
    (λ h. cond-true (ltb i 64) (bit (v % 2 ^ 64) i) (bit (v / 2 ^ 64) (i - 64)) (lt-ltb i 64 h) ∙ bit_mod v 64 i h)
    (λ h. let e : 64 + (i - 64) ≡ i = omega arith in
    cond-false (ltb i 64) (bit (v % 2 ^ 64) i) (bit (v / 2 ^ 64) (i - 64)) (le-ltb i 64 h) ∙ bit_shr v 64 (i - 64) ∙ ap (bit v) e)
    (cases_lt i 64)

pub bit_ones : (n i : ℕ) → i < n → bit (2 ^ n - 1) i ≡ 1
unfolding bit
bit_ones n i h =
    let m : ℕ = n - suc i in
    let e : n ≡ (m + 1) + i = omega arith in
    ap (λ (x : ℕ). (2 ^ x - 1) / 2 ^ i % 2) e
    ∙ ap (λ (x : ℕ). x / 2 ^ i % 2) (ones_split (m + 1) i)
    ∙ ap (λ (x : ℕ). x % 2) (high (2 ^ (m + 1) - 1) i (ones_lt i))
    ∙ ap (λ (x : ℕ). x % 2) (ones_split m 1)
    ∙ digits_mod (2 ^ m - 1) {m = 2} {r = 1} (omega arith)

min_two : (a b : ℕ) → min (a % 2) (b % 2) < 2
min_two a b = omega (arith, mod-lt a two)

max_two : (a b : ℕ) → max (a % 2) (b % 2) < 2
max_two a b = omega (arith, mod-lt a two, mod-lt b two)

pub digit : (x : ℕ) → x < 2 → (x ≡ 0) ⊎ (x ≡ 1)
digit x h = ⊎_elim (λ l. inl (omega arith)) (λ l. inr (omega arith)) (cases_lt x 1)

-- what holds of 0 and 1 holds of a bit
pub both_digits : (P : ℕ → Type 0) (x : ℕ) → x < 2 → P 0 → P 1 → P x
both_digits P x h p q = ⊎_elim (λ (e : x ≡ 0). subst P (sym e) p) (λ (e : x ≡ 1). subst P (sym e) q) (digit x h)

differ_two : (a b : ℕ) → a < 2 → b < 2 → differ a b < 2
differ_two a b h l =
    both_digits (λ x. differ x b < 2) a h l (both_digits (λ y. differ 1 y < 2) b l (omega arith) (omega arith))

-- a bit under a mask, and one changed by exclusive or under a mask
pub masked : (t : Bool) (a : ℕ) → a < 2 → min a (cond t 1 0) ≡ cond t a 0
masked true a h = omega arith
masked false a h = omega arith

pub chosen : (t : Bool) (a b : ℕ) → a < 2 → b < 2 → differ a (min (differ a b) (cond t 1 0)) ≡ cond t b a
chosen true a b h l =
    both_digits (λ x. differ x (min (differ x b) 1) ≡ b) a h
    (both_digits (λ y. differ 0 (min (differ 0 y) 1) ≡ y) b l refl refl)
    (both_digits (λ y. differ 1 (min (differ 1 y) 1) ≡ y) b l refl refl)
chosen false a b h l =
    both_digits (λ x. differ x (min (differ x b) 0) ≡ x) a h
    (both_digits (λ y. differ 0 (min (differ 0 y) 0) ≡ 0) b l refl refl)
    (both_digits (λ y. differ 1 (min (differ 1 y) 0) ≡ 1) b l refl refl)

pub bit-and : (a b i : ℕ) → bit (bit_and a b) i ≡ min (bit a i) (bit b i)
unfolding bit
bit-and a b i =
    ap (λ (x : ℕ). x % 2) (and_shr a b i ∙ and_step (a / 2 ^ i) (b / 2 ^ i))
    ∙ digits_mod (bit_and (a / 2 ^ i / 2) (b / 2 ^ i / 2)) (min_two (a / 2 ^ i) (b / 2 ^ i))

pub bit-or : (a b i : ℕ) → bit (bit_or a b) i ≡ max (bit a i) (bit b i)
unfolding bit
bit-or a b i =
    ap (λ (x : ℕ). x % 2) (or_shr a b i ∙ or_step (a / 2 ^ i) (b / 2 ^ i))
    ∙ digits_mod (bit_or (a / 2 ^ i / 2) (b / 2 ^ i / 2)) (max_two (a / 2 ^ i) (b / 2 ^ i))

pub bit-xor : (a b i : ℕ) → bit (bit_xor a b) i ≡ differ (bit a i) (bit b i)
unfolding bit
bit-xor a b i =
    ap (λ (x : ℕ). x % 2) (xor_shr a b i ∙ xor_step (a / 2 ^ i) (b / 2 ^ i))
    ∙ digits_mod (bit_xor (a / 2 ^ i / 2) (b / 2 ^ i / 2))
    (differ_two (a / 2 ^ i % 2) (b / 2 ^ i % 2) (mod-lt (a / 2 ^ i) two) (mod-lt (b / 2 ^ i) two))

-- a test that holds at each number below n
abbrev pub every : (ℕ → Bool) → ℕ → Bool
every p zero = true
every p (suc n) = p n && every p n

pub every_at : (p : ℕ → Bool) (n k : ℕ) → every p n ≡ true → k < n → p k ≡ true
every_at p n k h l = (Decides-below_and p (λ i. p i ≡ true) (every p) (λ i. (λ e. e, λ e. e)) refl (λ _. refl) n).0 h k l
