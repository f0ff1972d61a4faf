-- Rows of bits: what a pair of words says of a row, and what putting it back changes.
use Rattle.std.proofs.Common.{◌≡◌, ℕ, zero, suc, ◌^◌, ◌+◌, ◌-◌, ◌*◌, ◌/◌, ◌%◌, ◌<◌, ◌≤◌, Bool, true, false, cond, ltb, ◌≢◌, List, length, get_or, set, sym, refl, ap, ◌∙◌, ap₂, ⊎_elim, arith, length-set}
use lib.Bits.{bit_and, and_mask}
use Rattle.std.proofs.lemmas.List.{get_or-set_same, get_or-set_other}
use Rattle.std.proofs.lemmas.Bool.{cases_eq, cases_lt, cond-true, cond-false, lt-ltb, le-ltb}
use Rattle.std.proofs.lemmas.Bool.Decides.{nat_tests}
use Rattle.bits.specs.Bit.{bit, mirror, pair_bit, within}
use Rattle.bits.proofs.BitLaws.{bit_mod, bit_shr}
use Rattle.std.specs.Int.{to_le_bytes, w64}
use Rattle.host.specs.Rows.{word_bit, byte_bit}

pub within_true : (at n p : ℕ) → at ≤ p → p < at + n → within at n p ≡ true
within_true at n p a b = grind (arith, nat_tests)

pub within_below : (at n p : ℕ) → p < at → within at n p ≡ false
within_below at n p a = grind (arith, nat_tests)

pub within_above : (at n p : ℕ) → at + n ≤ p → within at n p ≡ false
within_above at n p a = grind (arith, nat_tests)

-- a test at each place of a row: before the part, inside it, behind it
pub by_place : (P : ℕ → Type 0) (at n p : ℕ) → (p < at → P p) → (at ≤ p → p < at + n → P p) → (at + n ≤ p → P p) → P p
by_place P at n p a b c =
    ⊎_elim (λ (h : p < at). a h) (λ (h : at ≤ p). ⊎_elim (λ (l : p < at + n). b h l) (λ (l : at + n ≤ p). c l) (cases_lt p (at + n))) (cases_lt p at)

shifted_within : (base shift count p : ℕ) → base ≤ p → within shift count (p - base) ≡ within (base + shift) count p
shifted_within base shift count p h = grind (arith, nat_tests)

-- n places from `base` on are taken out, a part of them is changed, and they are put back: the row is changed in that part alone
pub splice_row : (row row' : ℕ → ℕ) (base n shift count value : ℕ) (old new : ℕ → ℕ)
    → ((j : ℕ) → j < n → old j ≡ row (base + j))
    → ((p : ℕ) → row' p ≡ cond (within base n p) (new (p - base)) (row p))
    → ((j : ℕ) → new j ≡ cond (within shift count j) (bit value (j - shift)) (old j))
    → shift + count ≤ n
    → (p : ℕ) → row' p ≡ cond (within (base + shift) count p) (bit value (p - (base + shift))) (row p)
splice_row row row' base n shift count value old new taken put changed fits p =
    by_place (λ q. row' q ≡ cond (within (base + shift) count q) (bit value (q - (base + shift))) (row q)) base n p
    (λ h. put p ∙ cond-false (within base n p) (new (p - base)) (row p) (within_below base n p h)
    ∙ sym (cond-false (within (base + shift) count p) (bit value (p - (base + shift))) (row p) (within_below (base + shift) count p (omega arith))))
    (λ h l. let d : p - base - shift ≡ p - (base + shift) = omega arith in
    put p ∙ cond-true (within base n p) (new (p - base)) (row p) (within_true base n p h l) ∙ changed (p - base)
    ∙ ap₂ (λ (x y : ℕ). cond (within shift count (p - base)) (bit value x) y) d (taken (p - base) (omega arith) ∙ ap row (omega arith))
    ∙ ap (λ (b : Bool). cond b (bit value (p - (base + shift))) (row p)) (shifted_within base shift count p h))
    (λ h. put p ∙ cond-false (within base n p) (new (p - base)) (row p) (within_above base n p h)
    ∙ sym (cond-false (within (base + shift) count p) (bit value (p - (base + shift))) (row p) (within_above (base + shift) count p (omega arith))))

-- the same, with the part's place written as one number
pub counted : (row row' : ℕ → ℕ) (from at count value : ℕ) → from ≡ at
    → ((p : ℕ) → row' p ≡ cond (within from count p) (bit value (p - from)) (row p))
    → (p : ℕ) → row' p ≡ cond (within at count p) (bit value (p - at)) (row p)
counted row row' from at count value e h p = h p ∙ ap (λ (x : ℕ). cond (within x count p) (bit value (p - x)) (row p)) e

-- what is read of a part, place by place
pub counted_read : (row : ℕ → ℕ) (r at count : ℕ) (old : ℕ → ℕ) → ((i : ℕ) → bit r i ≡ cond (ltb i count) (old i) 0)
    → ((i : ℕ) → i < count → old i ≡ row (at + i)) → (i : ℕ) → bit r i ≡ cond (ltb i count) (row (at + i)) 0
counted_read row r at count old h e i =
    h i ∙ ⊎_elim
    (λ (l : i < count). ap (λ (x : ℕ). cond (ltb i count) x 0) (e i l))
    (λ (l : count ≤ i). cond-false (ltb i count) (old i) 0 (le-ltb i count l) ∙ sym (cond-false (ltb i count) (row (at + i)) 0 (le-ltb i count l)))
    (cases_lt i count)

-- bit j of a pair of words
pub pair_low : (low high j : ℕ) → j < 64 → pair_bit low high j ≡ bit low j
pair_low low high j h = cond-true (ltb j 64) (bit low j) (bit high (j - 64)) (lt-ltb j 64 h)

pub pair_high : (low high j : ℕ) → 64 ≤ j → pair_bit low high j ≡ bit high (j - 64)
pair_high low high j h = cond-false (ltb j 64) (bit low j) (bit high (j - 64)) (le-ltb j 64 h)

-- at most 64 places see the low word alone
pub pair_within : (low high base n p other : ℕ) → n ≤ 64
    → cond (within base n p) (bit low (p - base)) other ≡ cond (within base n p) (pair_bit low high (p - base)) other
pair_within low high base n p other h =
    by_place (λ q. cond (within base n p) (bit low (p - base)) other ≡ cond (within base n p) (pair_bit low high (p - base)) other) base n p
    (λ a. cond-false (within base n p) (bit low (p - base)) other (within_below base n p a)
    ∙ sym (cond-false (within base n p) (pair_bit low high (p - base)) other (within_below base n p a)))
    (λ a b. ap (λ (x : ℕ). cond (within base n p) x other) (sym (pair_low low high (p - base) (omega arith))))
    (λ a. cond-false (within base n p) (bit low (p - base)) other (within_above base n p a)
    ∙ sym (cond-false (within base n p) (pair_bit low high (p - base)) other (within_above base n p a)))

word_at : (ws : List ℕ) (p m b : ℕ) → p / 64 ≡ m → p % 64 ≡ b → word_bit ws p ≡ bit (get_or ws m 0) b
word_at ws p m b d e = ap₂ (λ (x y : ℕ). bit (get_or ws x 0) y) d e

-- two neighbouring words hold 128 places of the row, and one word 64
pub words_pair : (ws : List ℕ) (word j : ℕ) → j < 128 → pair_bit (get_or ws word 0) (get_or ws (word + 1) 0) j ≡ word_bit ws (64 * word + j)
words_pair ws word j h =
    ⊎_elim
    (λ (l : j < 64). pair_low (get_or ws word 0) (get_or ws (word + 1) 0) j l ∙ sym (word_at ws (64 * word + j) word j (omega arith) (omega arith)))
    (λ (l : 64 ≤ j). pair_high (get_or ws word 0) (get_or ws (word + 1) 0) j l
    ∙ sym (word_at ws (64 * word + j) (word + 1) (j - 64) (omega arith) (omega arith)))
    (cases_lt j 64)

pub words_single : (ws : List ℕ) (word high j : ℕ) → j < 64 → pair_bit (get_or ws word 0) high j ≡ word_bit ws (64 * word + j)
words_single ws word high j h = pair_low (get_or ws word 0) high j h ∙ sym (word_at ws (64 * word + j) word j (omega arith) (omega arith))

-- one word put back
pub words_set : (ws : List ℕ) (word low high p : ℕ) → word < length ws
    → word_bit (set ws word low) p ≡ cond (within (64 * word) 64 p) (pair_bit low high (p - 64 * word)) (word_bit ws p)
words_set ws word low high p h =
    by_place (λ q. word_bit (set ws word low) q ≡ cond (within (64 * word) 64 q) (pair_bit low high (q - 64 * word)) (word_bit ws q)) (64 * word) 64 p
    (λ l. let ne : p / 64 ≢ word = omega arith in
    ap (λ (x : ℕ). bit x (p % 64)) (get_or-set_other ws word (p / 64) low 0 ne)
    ∙ sym (cond-false (within (64 * word) 64 p) (pair_bit low high (p - 64 * word)) (word_bit ws p) (within_below (64 * word) 64 p l)))
    (λ a b. word_at (set ws word low) p word (p - 64 * word) (omega arith) (omega arith)
    ∙ ap (λ (x : ℕ). bit x (p - 64 * word)) (get_or-set_same ws word low 0 h)
    ∙ sym (pair_low low high (p - 64 * word) (omega arith))
    ∙ sym (cond-true (within (64 * word) 64 p) (pair_bit low high (p - 64 * word)) (word_bit ws p) (within_true (64 * word) 64 p a b)))
    (λ l. let ne : p / 64 ≢ word = omega arith in
    ap (λ (x : ℕ). bit x (p % 64)) (get_or-set_other ws word (p / 64) low 0 ne)
    ∙ sym (cond-false (within (64 * word) 64 p) (pair_bit low high (p - 64 * word)) (word_bit ws p) (within_above (64 * word) 64 p l)))

-- two neighbouring words put back
pub words_set_both : (ws : List ℕ) (word low high p : ℕ) → word + 1 < length ws
    → word_bit (set (set ws word low) (word + 1) high) p ≡ cond (within (64 * word) 128 p) (pair_bit low high (p - 64 * word)) (word_bit ws p)
words_set_both ws word low high p h =
    let vs : List ℕ = set ws word low in
    let m : word + 1 < length vs = omega (arith, length-set ws word low) in
    let upper = words_set vs (word + 1) high 0 p m in
    let lower = words_set ws word low high p (omega arith) in
    by_place (λ q. word_bit (set vs (word + 1) high) q ≡ cond (within (64 * word) 128 q) (pair_bit low high (q - 64 * word)) (word_bit ws q)) (64 * word) 128 p
    (λ l. upper
    ∙ cond-false (within (64 * (word + 1)) 64 p) (pair_bit high 0 (p - 64 * (word + 1))) (word_bit vs p) (within_below (64 * (word + 1)) 64 p (omega arith))
    ∙ lower ∙ cond-false (within (64 * word) 64 p) (pair_bit low high (p - 64 * word)) (word_bit ws p) (within_below (64 * word) 64 p l)
    ∙ sym (cond-false (within (64 * word) 128 p) (pair_bit low high (p - 64 * word)) (word_bit ws p) (within_below (64 * word) 128 p l)))
    (λ a b. ⊎_elim
    (λ (l : p < 64 * word + 64). upper
    ∙ cond-false (within (64 * (word + 1)) 64 p) (pair_bit high 0 (p - 64 * (word + 1))) (word_bit vs p) (within_below (64 * (word + 1)) 64 p (omega arith))
    ∙ lower ∙ cond-true (within (64 * word) 64 p) (pair_bit low high (p - 64 * word)) (word_bit ws p) (within_true (64 * word) 64 p a l))
    (λ (l : 64 * word + 64 ≤ p). upper
    ∙ cond-true (within (64 * (word + 1)) 64 p) (pair_bit high 0 (p - 64 * (word + 1))) (word_bit vs p) (within_true (64 * (word + 1)) 64 p (omega arith) (omega arith))
    ∙ pair_low high 0 (p - 64 * (word + 1)) (omega arith) ∙ ap (bit high) (omega arith) ∙ sym (pair_high low high (p - 64 * word) (omega arith)))
    (cases_lt p (64 * word + 64))
    ∙ sym (cond-true (within (64 * word) 128 p) (pair_bit low high (p - 64 * word)) (word_bit ws p) (within_true (64 * word) 128 p a b)))
    (λ l. upper
    ∙ cond-false (within (64 * (word + 1)) 64 p) (pair_bit high 0 (p - 64 * (word + 1))) (word_bit vs p) (within_above (64 * (word + 1)) 64 p (omega arith))
    ∙ lower ∙ cond-false (within (64 * word) 64 p) (pair_bit low high (p - 64 * word)) (word_bit ws p) (within_above (64 * word) 64 p (omega arith))
    ∙ sym (cond-false (within (64 * word) 128 p) (pair_bit low high (p - 64 * word)) (word_bit ws p) (within_above (64 * word) 128 p l)))

pub byte_at : (bs : List ℕ) (p m b : ℕ) → p / 8 ≡ m → 7 - p % 8 ≡ b → byte_bit bs p ≡ bit (get_or bs m 0) b
byte_at bs p m b d e = ap₂ (λ (x y : ℕ). bit (get_or bs x 0) y) d e

-- a number as eight bytes, the lowest first
pub le_byte : (n k : ℕ) → k < 8 → get_or (to_le_bytes w64 n) k 0 ≡ n / 2 ^ (8 * k) % 256
le_byte n zero h = grind arith
le_byte n (suc zero) h = refl
le_byte n (suc (suc zero)) h = refl
le_byte n (suc (suc (suc zero))) h = refl
le_byte n (suc (suc (suc (suc zero)))) h = refl
le_byte n (suc (suc (suc (suc (suc zero))))) h = refl
le_byte n (suc (suc (suc (suc (suc (suc zero)))))) h = refl
le_byte n (suc (suc (suc (suc (suc (suc (suc zero))))))) h = refl
le_byte n (suc (suc (suc (suc (suc (suc (suc (suc k)))))))) h = absurd (omega arith)

pub le_bit : (n i : ℕ) → i < 64 → bit (get_or (to_le_bytes w64 n) (i / 8) 0) (i % 8) ≡ bit n i
le_bit n i h =
    ap (λ (x : ℕ). bit x (i % 8)) (le_byte n (i / 8) (omega arith))
    ∙ bit_mod (n / 2 ^ (8 * (i / 8))) 8 (i % 8) (omega arith) ∙ bit_shr n (8 * (i / 8)) (i % 8) ∙ ap (bit n) (omega arith)

-- eight bytes, turned round, and the ninth hold 72 places of the row
pub bytes_pair : (bs : List ℕ) (from low ninth j : ℕ) → ((i : ℕ) → i < 64 → bit low i ≡ byte_bit bs (8 * from + i))
    → ((i : ℕ) → i < 64 → bit ninth i ≡ bit (get_or bs (from + 8) 0) (mirror i)) → j < 72 → pair_bit low ninth j ≡ byte_bit bs (8 * from + j)
bytes_pair bs from low ninth j a b h =
    ⊎_elim
    (λ (l : j < 64). pair_low low ninth j l ∙ a j l)
    (λ (l : 64 ≤ j). pair_high low ninth j l ∙ b (j - 64) (omega arith)
    ∙ sym (byte_at bs (8 * from + j) (from + 8) (mirror (j - 64)) (omega arith) (omega arith)))
    (cases_lt j 64)

-- nine bytes put back: eight of them, and then the ninth
pub bytes_set : (bs bs₁ : List ℕ) (from low high m p : ℕ) → length bs₁ ≡ length bs → from + 8 < length bs
    → ((q : ℕ) → byte_bit bs₁ q ≡ cond (within (8 * from) 64 q) (bit low (q - 8 * from)) (byte_bit bs q))
    → ((i : ℕ) → i < 64 → bit m i ≡ bit high (mirror i))
    → byte_bit (set bs₁ (from + 8) (bit_and m 255)) p ≡ cond (within (8 * from) 72 p) (pair_bit low high (p - 8 * from)) (byte_bit bs p)
bytes_set bs bs₁ from low high m p l h eight turned =
    let base : ℕ = 8 * from in
    ⊎_elim
    (λ (e : p / 8 ≡ from + 8).
    byte_at (set bs₁ (from + 8) (bit_and m 255)) p (from + 8) (7 - p % 8) e refl
    ∙ ap (λ (x : ℕ). bit x (7 - p % 8)) (get_or-set_same bs₁ (from + 8) (bit_and m 255) 0 (omega arith) ∙ and_mask m 8)
    ∙ bit_mod m 8 (7 - p % 8) (omega arith) ∙ turned (7 - p % 8) (omega arith) ∙ ap (bit high) (omega arith)
    ∙ sym (pair_high low high (p - base) (omega arith))
    ∙ sym (cond-true (within base 72 p) (pair_bit low high (p - base)) (byte_bit bs p) (within_true base 72 p (omega arith) (omega arith))))
    (λ (ne : p / 8 ≡ from + 8 → ⊥).
    ap (λ (x : ℕ). bit x (7 - p % 8)) (get_or-set_other bs₁ (from + 8) (p / 8) (bit_and m 255) 0 ne) ∙ eight p
    ∙ by_place (λ q. cond (within base 64 p) (bit low (p - base)) (byte_bit bs p) ≡ cond (within base 72 p) (pair_bit low high (p - base)) (byte_bit bs p)) base 64 p
    (λ a. cond-false (within base 64 p) (bit low (p - base)) (byte_bit bs p) (within_below base 64 p a)
    ∙ sym (cond-false (within base 72 p) (pair_bit low high (p - base)) (byte_bit bs p) (within_below base 72 p a)))
    (λ a b. cond-true (within base 64 p) (bit low (p - base)) (byte_bit bs p) (within_true base 64 p a b)
    ∙ sym (pair_low low high (p - base) (omega arith))
    ∙ sym (cond-true (within base 72 p) (pair_bit low high (p - base)) (byte_bit bs p) (within_true base 72 p a (omega arith))))
    (λ a. cond-false (within base 64 p) (bit low (p - base)) (byte_bit bs p) (within_above base 64 p a)
    ∙ sym (cond-false (within base 72 p) (pair_bit low high (p - base)) (byte_bit bs p) (within_above base 72 p (omega arith)))))
    (cases_eq (p / 8) (from + 8))
