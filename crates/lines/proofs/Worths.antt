-- Numbers read digit by digit.
use Rattle.std.proofs.Common.{◌≡◌, ℕ, ◌+◌, ◌*◌, ◌^◌, ◌<◌, ◌≤◌, eqb, ltb, List, [], ◌∷◌, length, get_or, drop, Some, None, Option, sym, refl, ap, ◌∙◌, ⊎_elim, le-mul_of_pos_right, arith}
use Rattle.std.proofs.lemmas.List.{drop_more, drop_all}
use Rattle.std.proofs.lemmas.Bool.{cond-false, le-ltb, lt-ltb, ne_eqb, cond-true, cases_lt}
use Rattle.std.proofs.lemmas.Bool.Decides.{nat_tests}
use Rattle.lines.specs.Numbers.{below, digit_worth, grow, numeral, worth_after}

-- what is below a bound is the value itself
pub below_some : (bound : ℕ) (o : Option ℕ) (m : ℕ) → below bound o ≡ Some m → o ≡ Some m
below_some bound None m e = e
below_some bound (Some n) m e = grind (arith, nat_tests)

pub below_lt : (bound : ℕ) (o : Option ℕ) (m : ℕ) → below bound o ≡ Some m → m < bound
below_lt bound None m e = grind arith
below_lt bound (Some n) m e = grind (arith, nat_tests)

-- from a number past the bound on, no digits lead back below it
pub past_bound : (base n : ℕ) (cs : List ℕ) → 1 ≤ base → 2 ^ 64 ≤ n → below (2 ^ 64) (worth_after base (Some n) cs) ≡ None
past_bound base n [] h g = cond-false (ltb n (2 ^ 64)) (Some n) None (le-ltb n (2 ^ 64) g)
past_bound base n (c ∷ cs) h g =
    elim (below base (digit_worth c)) as (λ o. below (2 ^ 64) (worth_after base (grow base n o) cs) ≡ None)
    [ None ↦ refl | Some d ↦ past_bound base (n * base + d) cs h (omega (arith, le-mul_of_pos_right {m = base} n h)) ]

-- where a digit leads past the bound, or is none, there is no number
pub stuck : (base : ℕ) (o : Option ℕ) (cs : List ℕ) → 1 ≤ base → below (2 ^ 64) o ≡ None → below (2 ^ 64) (worth_after base o cs) ≡ None
stuck base None cs h e = refl
stuck base (Some n) cs h e =
    past_bound base n cs h (⊎_elim (λ l. let z : ◌≡◌ {A = Option ℕ} (Some n) None = sym (cond-true (ltb n (2 ^ 64)) (Some n) None (lt-ltb n (2 ^ 64) l)) ∙ e in grind arith) (λ g. g) (cases_lt n (2 ^ 64)))

-- one digit more
pub worth_more : (base n m : ℕ) (xs : List ℕ) (i : ℕ) → i < length xs →
    below (2 ^ 64) (grow base n (below base (digit_worth (get_or xs i 0)))) ≡ Some m →
    worth_after base (Some n) (drop i xs) ≡ worth_after base (Some m) (drop (i + 1) xs)
worth_more base n m xs i h e =
    ap (worth_after base (Some n)) (drop_more xs i 0 h)
    ∙ ap (λ (o : Option ℕ). worth_after base o (drop (i + 1) xs)) (below_some (2 ^ 64) (grow base n (below base (digit_worth (get_or xs i 0)))) m e)

-- a digit that leads nowhere
pub worth_stuck : (base n : ℕ) (xs : List ℕ) (i : ℕ) → 1 ≤ base → i < length xs →
    worth_after base (Some 0) xs ≡ worth_after base (Some n) (drop i xs) →
    below (2 ^ 64) (grow base n (below base (digit_worth (get_or xs i 0)))) ≡ None →
    numeral base xs ≡ None
worth_stuck base n xs i b h inv e =
    let s : below (2 ^ 64) (worth_after base (Some 0) xs) ≡ None
    = ap (below (2 ^ 64)) (inv ∙ ap (worth_after base (Some n)) (drop_more xs i 0 h))
    ∙ stuck base (grow base n (below base (digit_worth (get_or xs i 0)))) (drop (i + 1) xs) b e in
    cond-false (eqb (length xs) 0) None (below (2 ^ 64) (worth_after base (Some 0) xs)) (ne_eqb (length xs) 0 (λ z. omega arith)) ∙ s

-- all digits read
pub worth_all : (base n : ℕ) (xs : List ℕ) (i : ℕ) → 0 < length xs → length xs ≤ i → n < 2 ^ 64 →
    worth_after base (Some 0) xs ≡ worth_after base (Some n) (drop i xs) →
    numeral base xs ≡ Some n
worth_all base n xs i some all fits inv =
    let w : worth_after base (Some 0) xs ≡ Some n = inv ∙ ap (worth_after base (Some n)) (drop_all i xs all) in
    cond-false (eqb (length xs) 0) None (below (2 ^ 64) (worth_after base (Some 0) xs)) (ne_eqb (length xs) 0 (λ z. omega arith))
    ∙ ap (below (2 ^ 64)) w ∙ cond-true (ltb n (2 ^ 64)) (Some n) None (lt-ltb n (2 ^ 64) fits)
