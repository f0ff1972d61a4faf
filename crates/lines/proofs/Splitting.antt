-- Where words of a line begin and end.
use Rattle.std.proofs.Common.{◌≡◌, ℕ, ◌+◌, ◌<◌, ◌≤◌, Bool, true, false, not, cond, ltb, List, [], ◌∷◌, length, take, drop, Some, None, Option, refl, sym, ap, ◌∙◌, ⊎_elim, arith}
use Rattle.std.specs.Option.{unwrap_or}
use Rattle.std.specs.List.{position_or_len}
use Rattle.std.proofs.Math.Numerals.{one-add}
use Rattle.std.proofs.lemmas.Bool.{cond-true, cond-false, lt-ltb, le-ltb, cases_lt}
use Rattle.std.proofs.lemmas.List.Sums.{prefix_len-le-length}
use Rattle.lines.specs.Words.{blank, after_blanks, front, past, unless_empty, first_word, after_word}

pub after_blanks_at : (xs : List ℕ) → drop (position_or_len (λ c. not (blank c)) xs) xs ≡ after_blanks xs
after_blanks_at [] = refl
after_blanks_at (c ∷ cs) =
    let n : ℕ = position_or_len (λ c. not (blank c)) cs in
    elim (blank c) as (λ b. drop (cond (not (not b)) (1 + n) 0) (c ∷ cs) ≡ cond b (after_blanks cs) (c ∷ cs))
    [ true ↦ ap (λ (k : ℕ). drop k (c ∷ cs)) (one-add n) ∙ after_blanks_at cs | false ↦ refl ]

pub front_at : (xs : List ℕ) → take (position_or_len blank xs) xs ≡ front xs
front_at [] = refl
front_at (c ∷ cs) =
    let n : ℕ = position_or_len blank cs in
    elim (blank c) as (λ b. take (cond (not b) (1 + n) 0) (c ∷ cs) ≡ cond b [] (c ∷ front cs))
    [ true ↦ refl | false ↦ ap (λ (k : ℕ). take k (c ∷ cs)) (one-add n) ∙ ap (λ ys. c ∷ ys) (front_at cs) ]

pub past_at : (xs : List ℕ) → drop (position_or_len blank xs) xs ≡ past xs
past_at [] = refl
past_at (c ∷ cs) =
    let n : ℕ = position_or_len blank cs in
    elim (blank c) as (λ b. drop (cond (not b) (1 + n) 0) (c ∷ cs) ≡ cond b (c ∷ cs) (past cs))
    [ true ↦ refl | false ↦ ap (λ (k : ℕ). drop k (c ∷ cs)) (one-add n) ∙ past_at cs ]

-- the first place that passes a test, or the end
pub position_or : (p : ℕ → Bool) (xs : List ℕ) (found : Option ℕ) →
    found ≡ cond (ltb (position_or_len p xs) (length xs)) (Some (position_or_len p xs)) None →
    unwrap_or found (length xs) ≡ position_or_len p xs
position_or p xs found e =
    ap (λ (o : Option ℕ). unwrap_or o (length xs)) e
    ∙ ⊎_elim (λ (l : position_or_len p xs < length xs).
    ap (λ (o : Option ℕ). unwrap_or o (length xs)) (cond-true (ltb (position_or_len p xs) (length xs)) (Some (position_or_len p xs)) None (lt-ltb (position_or_len p xs) (length xs) l)))
    (λ (g : length xs ≤ position_or_len p xs).
    ap (λ (o : Option ℕ). unwrap_or o (length xs)) (cond-false (ltb (position_or_len p xs) (length xs)) (Some (position_or_len p xs)) None (le-ltb (position_or_len p xs) (length xs) g))
    ∙ omega (arith, g, prefix_len-le-length (λ x. not (p x)) xs))
    (cases_lt (position_or_len p xs) (length xs))

pub position_le : (p : ℕ → Bool) (xs : List ℕ) → position_or_len p xs ≤ length xs
position_le p xs = prefix_len-le-length (λ x. not (p x)) xs

-- what is left of a line is no longer, and shorter where a word was taken
pub blanks_le : (xs : List ℕ) → length (after_blanks xs) ≤ length xs
blanks_le [] = omega arith
blanks_le (c ∷ cs) =
    elim (blank c) as (λ b. length (cond b (after_blanks cs) (c ∷ cs)) ≤ length (c ∷ cs))
    [ true ↦ omega (arith, blanks_le cs) | false ↦ omega arith ]

pub past_le : (xs : List ℕ) → length (past xs) ≤ length xs
past_le [] = omega arith
past_le (c ∷ cs) =
    elim (blank c) as (λ b. length (cond b (c ∷ cs) (past cs)) ≤ length (c ∷ cs))
    [ true ↦ omega arith | false ↦ omega (arith, past_le cs) ]

pub past_less : (xs word : List ℕ) → Some word ≡ unless_empty (front xs) → length (past xs) < length xs
past_less [] word e = absurd (grind arith)
past_less (c ∷ cs) word e =
    let P : Bool → Type 0 = λ b. Some word ≡ unless_empty (cond b [] (c ∷ front cs)) → length (cond b (c ∷ cs) (past cs)) < length (c ∷ cs) in
    elim (blank c) as P [ true ↦ λ z. absurd (grind arith) | false ↦ λ _. omega (arith, past_le cs) ] e

pub word_shortens : (line word : List ℕ) → Some word ≡ first_word line → length (after_word line) < length line
word_shortens line word e = omega (arith, past_less (after_blanks line) word e, blanks_le line)

-- where no word is left, none comes later
pub none_left : (line : List ℕ) → first_word line ≡ None → first_word (after_word line) ≡ None
none_left [] e = refl
none_left (c ∷ cs) e =
    let P : Bool → Type 0 = λ b. blank c ≡ b → unless_empty (front (cond b (after_blanks cs) (c ∷ cs))) ≡ None → first_word (past (cond b (after_blanks cs) (c ∷ cs))) ≡ None in
    elim (blank c) as P [
      | true ↦ λ q z. none_left cs z
      | false ↦ λ q z. let y : unless_empty (cond false [] (c ∷ front cs)) ≡ None = ap (λ (b : Bool). unless_empty (cond b [] (c ∷ front cs))) (sym q) ∙ z in absurd (cc)
    ] refl e
