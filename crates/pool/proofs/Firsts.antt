-- First occurrences and numbers.
use Rattle.std.proofs.Common.{◌≡◌, ℕ, zero, suc, ◌<◌, Bool, true, false, cond, ◌||◌, List, [], ◌∷◌, ◌++◌, length, get_or, is_some, Some, None, Option, Ordering, Less, Equal, Greater, unwrap_or, sym, refl, ap, ◌∙◌, arith}
use Rattle.std.proofs.lemmas.List.{append-nil}
use Rattle.std.proofs.lemmas.Bool.{false≢true}
use Rattle.std.specs.Option.{option_map}
use Rattle.std.specs.Ordering.{is_eq as compare_is_eq}
use Rattle.pool.specs.Order.{Orders}
use Rattle.pool.specs.Firsts.{known, number_in, with_key, without, firsts}

-- an answer that is not `Equal`
pub not_eq : (o : Ordering) → (o ≡ Equal → ⊥) → compare_is_eq o ≡ false
not_eq Less h = refl
not_eq Equal h = absurd (h refl)
not_eq Greater h = refl

is_eq : (o : Ordering) → compare_is_eq o ≡ true → o ≡ Equal
is_eq Less h = absurd (false≢true h)
is_eq Equal h = refl
is_eq Greater h = absurd (false≢true h)

some_mapped : (o : Option ℕ) → is_some (option_map suc o) ≡ is_some o
some_mapped None = refl
some_mapped (Some n) = refl

module _ {A : Type 0} (order : A → A → Ordering) where
  -- a key is known where it has a number
  pub known_number : (ks : List A) (k : A) → known order ks k ≡ is_some (number_in order ks k)
  known_number [] k = refl
  known_number (x ∷ xs) k = go (compare_is_eq (order x k)) (known_number xs k ∙ sym (some_mapped (number_in order xs k)))
    where
      go : (b : Bool) → known order xs k ≡ is_some (option_map suc (number_in order xs k)) → (b || known order xs k) ≡ is_some (cond b (Some 0) (option_map suc (number_in order xs k)))
      go true e = refl
      go false e = e

  -- a number is below the number of keys
  pub number_within : (ks : List A) (k : A) (n : ℕ) → number_in order ks k ≡ Some n → n < length ks
  number_within [] k n e = absurd (false≢true (ap is_some e))
  number_within (x ∷ xs) k n e = go (compare_is_eq (order x k)) (number_in order xs k) e (number_within xs k)
    where
      go : (b : Bool) (o : Option ℕ) → cond b (Some 0) (option_map suc o) ≡ Some n → ((m : ℕ) → o ≡ Some m → m < length xs) → n < length (x ∷ xs)
      go true o f rest = let z : 0 ≡ n = ap (λ (v : Option ℕ). unwrap_or v 0) f in omega arith
      go false None f rest = absurd (false≢true (ap is_some f))
      go false (Some m) f rest = let z : suc m ≡ n = ap (λ (v : Option ℕ). unwrap_or v 0) f in let l : m < length xs = rest m refl in omega arith

  -- a key that has a number is known
  pub known_some : (ks : List A) (k : A) (n : ℕ) → number_in order ks k ≡ Some n → known order ks k ≡ true
  known_some ks k n e = known_number ks k ∙ ap is_some e

  pub with_known : (ks : List A) (k : A) → known order ks k ≡ true → with_key order ks k ≡ ks
  with_known ks k e = ap (λ (b : Bool). cond b ks (ks ++ k ∷ [])) e

  pub with_unknown : (ks : List A) (k : A) → known order ks k ≡ false → with_key order ks k ≡ ks ++ k ∷ []
  with_unknown ks k e = ap (λ (b : Bool). cond b ks (ks ++ k ∷ [])) e

  -- the number of a key is the first index at which it stands
  pub number_first : (ks : List A) (k : A) (n : ℕ) (d : A) → n < length ks → order (get_or ks n d) k ≡ Equal → ((j : ℕ) → j < n → order (get_or ks j d) k ≡ Equal → ⊥) → number_in order ks k ≡ Some n
  number_first [] k n d h e before = absurd (omega arith)
  number_first (x ∷ xs) k zero d h e before = ap (λ (b : Bool). cond b (Some 0) (option_map suc (number_in order xs k))) (ap compare_is_eq e)
  number_first (x ∷ xs) k (suc n) d h e before =
      ap (λ (b : Bool). cond b (Some 0) (option_map suc (number_in order xs k))) (not_eq (order x k) (before 0 (omega arith)))
      ∙ ap (option_map suc) (number_first xs k n d (omega arith) e (λ j l. before (suc j) (omega arith)))

  -- a key that stands nowhere has none
  pub number_none : (ks : List A) (k d : A) → ((j : ℕ) → j < length ks → order (get_or ks j d) k ≡ Equal → ⊥) → number_in order ks k ≡ None
  number_none [] k d none = refl
  number_none (x ∷ xs) k d none =
      ap (λ (b : Bool). cond b (Some 0) (option_map suc (number_in order xs k))) (not_eq (order x k) (none 0 (omega arith)))
      ∙ ap (option_map suc) (number_none xs k d (λ j l. none (suc j) (omega arith)))

  without_push : (k : A) (xs : List A) (y : A) → without order k (xs ++ y ∷ []) ≡ without order k xs ++ without order k (y ∷ [])
  without_push k [] y = refl
  without_push k (x ∷ xs) y = go (compare_is_eq (order k x)) (without_push k xs y)
    where
      go : (b : Bool) → without order k (xs ++ y ∷ []) ≡ without order k xs ++ without order k (y ∷ []) → cond b (without order k (xs ++ y ∷ [])) (x ∷ without order k (xs ++ y ∷ [])) ≡ cond b (without order k xs) (x ∷ without order k xs) ++ without order k (y ∷ [])
      go true e = e
      go false e = ap (λ l. x ∷ l) e

  module _ (laws : Orders order) where
    -- a key that is taken out changes nothing for another
    known_without : (x k : A) → compare_is_eq (order x k) ≡ false → (ys : List A) → known order (without order x ys) k ≡ known order ys k
    known_without x k ne [] = refl
    known_without x k ne (y ∷ ys) = go (compare_is_eq (order x y)) refl (known_without x k ne ys)
      where
        go : (b : Bool) → compare_is_eq (order x y) ≡ b → known order (without order x ys) k ≡ known order ys k → known order (cond b (without order x ys) (y ∷ without order x ys)) k ≡ (compare_is_eq (order y k) || known order ys k)
        go true e ih = ih ∙ ap (λ (b : Bool). b || known order ys k) (sym (ap (λ z. compare_is_eq (order z k)) (sym (laws.same x y (is_eq (order x y) e))) ∙ ne))
        go false e ih = ap (λ (b : Bool). compare_is_eq (order y k) || b) ih

    -- the first occurrences of a series with one more key at its end
    pub firsts_push : (ks : List A) (k : A) → firsts order (ks ++ k ∷ []) ≡ with_key order (firsts order ks) k
    firsts_push [] k = refl
    firsts_push (x ∷ ks) k = ap (λ l. x ∷ without order x l) (firsts_push ks k) ∙ go (compare_is_eq (order x k)) (known order F k) refl refl
      where
        F : List A
        F = firsts order ks

        W : List A
        W = without order x F

        last : (b : Bool) → compare_is_eq (order x k) ≡ b → without order x (F ++ k ∷ []) ≡ W ++ cond b [] (k ∷ [])
        last b e = without_push x F k ∙ ap (λ (t : Bool). W ++ cond t [] (k ∷ [])) e

        go : (b c : Bool) → compare_is_eq (order x k) ≡ b → known order F k ≡ c → ◌≡◌ {A = List A} (x ∷ without order x (cond c F (F ++ k ∷ []))) (cond (b || known order W k) (x ∷ W) (x ∷ W ++ k ∷ []))
        go true true e f = refl
        go true false e f = ap (λ l. x ∷ l) (last true e ∙ append-nil W)
        go false true e f = ap (λ (t : Bool). cond t (x ∷ W) (x ∷ W ++ k ∷ [])) (sym (known_without x k e F ∙ f))
        go false false e f = ap (λ l. x ∷ l) (last false e) ∙ ap (λ (t : Bool). cond t (x ∷ W) (x ∷ W ++ k ∷ [])) (sym (known_without x k e F ∙ f))

    -- one more key in the pool is one more key in the series
    pub series_more : (ks ks' : List A) (k : A) → ks' ≡ with_key order ks k → (series : List A) → ks ≡ firsts order series → ks' ≡ firsts order (series ++ k ∷ [])
    series_more ks ks' k e series h = e ∙ ap (λ l. with_key order l k) h ∙ sym (firsts_push series k)
