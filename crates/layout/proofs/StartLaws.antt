-- Where concatenations begin, as they and their components come.
use Rattle.std.proofs.Common.{◌≡◌, ℕ, zero, suc, ◌+◌, ◌-◌, ◌*◌, ◌<◌, ◌≤◌, ◌⊎◌, List, [], ◌∷◌, ◌++◌, length, refl, ap, inl, inr, ⊎_elim, arith}
use Rattle.std.proofs.lemmas.List.Edits.{length-between}
use Rattle.std.proofs.lemmas.List.{get_or_default, get_or_past, length_push}
use Rattle.std.proofs.lemmas.Bool.{cases_lt}
use Rattle.layout.specs.Starts.{Begun, concat_at, start_at}

-- a concatenation that begins where the components end moves no beginning
pub start_push : (starts : List ℕ) (total k : ℕ) → start_at (starts ++ total ∷ []) total k ≡ start_at starts total k
start_push [] total zero = refl
start_push [] total (suc k) = refl
start_push (x ∷ xs) total zero = refl
start_push (x ∷ xs) total (suc k) = start_push xs total k

pub start_past : (starts : List ℕ) (total k : ℕ) → length starts ≤ k → start_at starts total k ≡ total
start_past starts total k h = get_or_past starts k total h

-- one component more, or one concatenation more
module _ (starts : List ℕ) (total : ℕ) (b : Begun starts total) where
  grown : (k : ℕ) → ((k < length starts) × (start_at starts (total + 1) k ≡ start_at starts total k)) ⊎ ((length starts ≤ k) × (start_at starts (total + 1) k ≡ total + 1))
  grown k =
      ⊎_elim
      (λ (l : k < length starts). inl (l, get_or_default starts k (total + 1) total l))
      (λ (g : length starts ≤ k). inr (g, start_past starts (total + 1) k g))
      (cases_lt k (length starts))

  -- how many components there are, if the last concatenation has room
  pub room_left : {C : Type 0} (comps : List C) → length comps ≡ total → 0 < length starts → length (concat_at starts comps (length starts - 1)) < 32
      → (total + 1 ≤ start_at starts total (length starts - 1) + 32) × (total + 1 ≤ 32 * length starts)
  room_left comps e h l =
      let k : ℕ = length starts - 1 in
      let last : start_at starts (length comps) (k + 1) ≡ length comps = start_past starts (length comps) (k + 1) (omega arith) in
      let long : length (concat_at starts comps k) ≡ start_at starts (length comps) (k + 1) - start_at starts (length comps) k =
      length-between comps (start_at starts (length comps) k) (start_at starts (length comps) (k + 1)) (omega (arith, last)) in
      let near : total + 1 ≤ start_at starts total k + 32 = omega (arith, last, long, e, ap (λ (n : ℕ). start_at starts n k) e) in (
        near,
        omega (arith, near, b.short k),
      )

  -- where the last concatenation begins
  begins_last : (k : ℕ) → k < length starts → length starts ≤ k + 1 → start_at starts total k ≡ start_at starts total (length starts - 1)
  begins_last k l g = ap (start_at starts total) (omega arith)

  pub begun_more : 0 < length starts → total + 1 ≤ start_at starts total (length starts - 1) + 32 → Begun starts (total + 1)
  begun_more n h = record {
    few = b.few;
    inside = λ k. ⊎_elim (λ p. omega (arith, p.1, b.inside k)) (λ p. omega (arith, p.1)) (grown k);
    rising = λ k. ⊎_elim
        (λ p. ⊎_elim (λ q. omega (arith, p.1, q.1, b.rising k)) (λ q. omega (arith, p.1, q.1, b.inside k)) (grown (k + 1)))
        (λ p. ⊎_elim (λ q. absurd (omega (arith, p.0, q.0))) (λ q. omega (arith, p.1, q.1)) (grown (k + 1)))
        (grown k);
    short = λ k. ⊎_elim (λ p. omega (arith, p.1, b.short k)) (λ p. omega (arith, p.0, p.1, n, h, b.short (length starts - 1))) (grown k);
    each = λ k. ⊎_elim
        (λ p. ⊎_elim (λ q. omega (arith, p.1, q.1, b.each k)) (λ q. omega (arith, p.1, q.1, h, begins_last k p.0 q.0)) (grown (k + 1)))
        (λ p. ⊎_elim (λ q. absurd (omega (arith, p.0, q.0))) (λ q. omega (arith, p.1, q.1)) (grown (k + 1)))
        (grown k);
  }

  pub begun_push : length starts < 16 → Begun (starts ++ total ∷ []) total
  begun_push h = record {
    few = omega (arith, length_push starts total);
    inside = λ k. omega (arith, start_push starts total k, b.inside k);
    rising = λ k. omega (arith, start_push starts total k, start_push starts total (k + 1), b.rising k);
    short = λ k. omega (arith, start_push starts total k, b.short k);
    each = λ k. omega (arith, start_push starts total k, start_push starts total (k + 1), b.each k);
  }
