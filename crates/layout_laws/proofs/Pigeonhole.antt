-- More numbers than there are places: two of them share one.
use Rattle.std.proofs.Common.{◌≡◌, ℕ, zero, suc, ◌<◌, ◌≤◌, cond, eqb, ◌⊎◌, inl, inr, ⊎_elim, arith}
use Rattle.std.proofs.lemmas.Bool.{cases_eq, cond-false, cond-true, eq-eqb, ne_eqb}

-- the place of number i once the last place is gone: who stood there goes where the last number stood
moved : (ℕ → ℕ) → ℕ → ℕ → ℕ → ℕ
moved f last m i = cond (eqb (f i) m) (f last) (f i)

moved_is : (f : ℕ → ℕ) (last m i : ℕ) → ((f i ≡ m) × (moved f last m i ≡ f last)) ⊎ ((f i ≡ m → ⊥) × (moved f last m i ≡ f i))
unfolding moved
moved_is f last m i =
    ⊎_elim
    (λ (e : f i ≡ m). inl (e, cond-true (eqb (f i) m) (f last) (f i) (eq-eqb (f i) m e)))
    (λ (o : f i ≡ m → ⊥). inr (o, cond-false (eqb (f i) m) (f last) (f i) (ne_eqb (f i) m o)))
    (cases_eq (f i) m)

-- the n numbers below n, each at a place below m and no two at the same, are at most m
pub few : (m n : ℕ) (f : ℕ → ℕ) → ((i : ℕ) → i < n → f i < m) → ((i j : ℕ) → i < j → j < n → f i ≡ f j → ⊥) → n ≤ m
few m zero f within apart = omega arith
few zero (suc n) f within apart = absurd (omega (arith, within 0 (omega arith)))
few (suc m) (suc n) f within apart =
    let h : n ≤ m = few m n (moved f n m) inside other in omega arith
  where
    inside : (i : ℕ) → i < n → moved f n m i < m
    inside i l =
        ⊎_elim
        (λ p. let o : f n ≡ m → ⊥ = λ e. apart i n l (omega arith) (omega (arith, p.0)) in omega (arith, p.1, within n (omega arith)))
        (λ p. let o : f i ≡ m → ⊥ = p.0 in omega (arith, p.1, within i (omega arith)))
        (moved_is f n m i)

    other : (i j : ℕ) → i < j → j < n → moved f n m i ≡ moved f n m j → ⊥
    other i j l h e =
        ⊎_elim
        (λ p. ⊎_elim
        (λ q. apart i j l (omega arith) (omega (arith, p.0, q.0)))
        (λ q. apart j n h (omega arith) (omega (arith, p.1, q.1)))
        (moved_is f n m j))
        (λ p. ⊎_elim
        (λ q. apart i n (omega arith) (omega arith) (omega (arith, p.1, q.1)))
        (λ q. apart i j l (omega arith) (omega (arith, p.1, q.1)))
        (moved_is f n m j))
        (moved_is f n m i)
