-- The sorted slots: what a comparison tells of the other slots, what a search through them means for the numbers, and how a key is added.
use Rattle.std.proofs.Common.{◌≡◌, ℕ, zero, suc, ◌+◌, ◌<◌, ◌≤◌, Bool, true, false, ◌||◌, eqb, ◌⊎◌, List, [], ◌∷◌, length, get_or, Some, None, Ordering, Less, Equal, Greater, sym, refl, ap, ◌∙◌, inl, inr, ⊎_elim, arith}
use Rattle.std.proofs.lemmas.Bool.{cases_lt, cases_order, false≢true, eqb-true, eq-eqb}
use Rattle.std.proofs.lemmas.List.{get_or_default}
use Rattle.std.specs.Option.{option_map}
use Rattle.std.specs.Ordering.{ordering_reverse, is_eq}
use Rattle.std.specs.Prelude.{Result, Ok, Err, IfSome}
use Rattle.std.specs.Result.{result_ok}
use Rattle.pool.specs.Order.{Orders}
use Rattle.pool.specs.Firsts.{number_in, Once}
use Rattle.pool.specs.Held.{key_in, stands, Ordered, Below, Over, Sought}
use Rattle.pool.proofs.Firsts.{number_first, number_none, number_within}

-- a number stands in a list where it is the element at some index
pub stands_at : (xs : List ℕ) (i n : ℕ) → i < length xs → get_or xs i 0 ≡ n → stands xs n ≡ true
stands_at [] i n h e = absurd (omega arith)
stands_at (x ∷ xs) zero n h e = ap (λ (b : Bool). b || stands xs n) (eq-eqb x n e)
stands_at (x ∷ xs) (suc i) n h e = go (eqb x n) (stands_at xs i n (omega arith) e)
  where
    go : (b : Bool) → stands xs n ≡ true → (b || stands xs n) ≡ true
    go true t = refl
    go false t = t

pub index_of : (xs : List ℕ) (n : ℕ) → stands xs n ≡ true → (i : ℕ) × (i < length xs) × (get_or xs i 0 ≡ n)
index_of [] n t = absurd (false≢true t)
index_of (x ∷ xs) n t = go (eqb x n) refl t (index_of xs n)
  where
    go : (b : Bool) → eqb x n ≡ b → (b || stands xs n) ≡ true → (stands xs n ≡ true → (i : ℕ) × (i < length xs) × (get_or xs i 0 ≡ n)) → (i : ℕ) × (i < length (x ∷ xs)) × (get_or (x ∷ xs) i 0 ≡ n)
    go true e u rest = (0, omega arith, eqb-true x n e)
    go false e u rest = let r = rest u in (suc r.0, omega (arith, r.1), r.2)

not_greater_equal : Greater ≡ Equal → ⊥
not_greater_equal e = false≢true (ap is_eq e)

not_less_equal : Less ≡ Equal → ⊥
not_less_equal e = false≢true (ap is_eq e)

module _ {A : Type 0} (order : A → A → Ordering) (laws : Orders order) (keys : List A) (places : List ℕ) (o : Ordered order keys places) where
  -- the default does not matter at a slot in use
  pub key_in_default : (i : ℕ) (d e : A) → i < length places → key_in keys places i d ≡ key_in keys places i e
  key_in_default i d e h = get_or_default keys (get_or places i 0) d e (o.below i h)

  pub turned : (x y : A) → order x y ≡ Less → order y x ≡ Greater
  turned x y e = laws.flip y x ∙ ap ordering_reverse e

  pub turned_back : (x y : A) → order x y ≡ Greater → order y x ≡ Less
  turned_back x y e = laws.flip y x ∙ ap ordering_reverse e

  -- no key stands twice
  pub once : Once order keys
  once i j d l h e = go (cases_order a b)
    where
      p : (s : ℕ) × (s < length places) × (get_or places s 0 ≡ i)
      p = index_of places i (o.every i (omega arith))

      q : (s : ℕ) × (s < length places) × (get_or places s 0 ≡ j)
      q = index_of places j (o.every j h)

      a : ℕ
      a = p.0

      b : ℕ
      b = q.0

      at_a : key_in keys places a d ≡ get_or keys i d
      at_a = ap (λ (n : ℕ). get_or keys n d) p.2

      at_b : key_in keys places b d ≡ get_or keys j d
      at_b = ap (λ (n : ℕ). get_or keys n d) q.2

      same : order (key_in keys places a d) (key_in keys places b d) ≡ Equal
      same = ap (λ x. order x (key_in keys places b d)) at_a ∙ ap (λ y. order (get_or keys i d) y) at_b ∙ e

      go : (a ≡ b) ⊎ ((a < b) ⊎ (b < a)) → ⊥
      go (inl t) = let u : i ≡ j = sym p.2 ∙ ap (λ (s : ℕ). get_or places s 0) t ∙ q.2 in omega arith
      go (inr (inl t)) = not_less_equal (sym (o.rising a b d t q.1) ∙ same)
      go (inr (inr t)) = not_greater_equal (sym (turned (key_in keys places b d) (key_in keys places a d) (o.rising b a d t p.1)) ∙ same)

  module _ (k : A) where
    -- a key below k has below k all keys in the slots up to its own
    pub below_more : (m : ℕ) (d : A) → m < length places → order (key_in keys places m d) k ≡ Less → Below order keys places (m + 1) k
    below_more m d h less j e l = grind (arith, h, less, l, key_in_default m d e h, o.rising j m e, laws.chain (key_in keys places j e) (key_in keys places m e) k)

    -- a key above k has above k all keys in the slots from its own on
    pub over_from : (m : ℕ) (d : A) → m < length places → order (key_in keys places m d) k ≡ Greater → Over order keys places m k
    over_from m d h more j e l in' = turned k (key_in keys places j e) (grind (arith, l, in', key_in_default m d e h, turned_back (key_in keys places m d) k more, o.rising m j e, laws.chain k (key_in keys places m e) (key_in keys places j e)))

    -- the number in a slot whose key equals k is that of k
    pub number_found : (i : ℕ) (d : A) → i < length places → order (key_in keys places i d) k ≡ Equal → number_in order keys k ≡ Some (get_or places i 0)
    number_found i d h e = number_first order keys k (get_or places i 0) d (o.below i h) e before
      where
        before : (j : ℕ) → j < get_or places i 0 → order (get_or keys j d) k ≡ Equal → ⊥
        before j l f =
            let p : get_or keys j d ≡ key_in keys places i d = laws.same (get_or keys j d) k f ∙ sym (laws.same (key_in keys places i d) k e) in
            once j (get_or places i 0) d l (o.below i h) (ap (λ x. order x (key_in keys places i d)) p ∙ laws.itself (key_in keys places i d))

    -- where all slots are below k or above it, k has no number
    pub number_unknown : (i : ℕ) → Below order keys places i k → Over order keys places i k → number_in order keys k ≡ None
    number_unknown i below over = number_none order keys k k none
      where
        none : (j : ℕ) → j < length keys → order (get_or keys j k) k ≡ Equal → ⊥
        none j l e = ⊎_elim before after (cases_lt p.0 i)
          where
            p : (s : ℕ) × (s < length places) × (get_or places s 0 ≡ j)
            p = index_of places j (o.every j l)

            at : order (key_in keys places p.0 k) k ≡ Equal
            at = ap (λ (n : ℕ). order (get_or keys n k) k) p.2 ∙ e

            before : p.0 < i → ⊥
            before b = not_less_equal (sym (below p.0 k b) ∙ at)

            after : i ≤ p.0 → ⊥
            after b = not_greater_equal (sym (over p.0 k b p.1) ∙ at)

  -- the answer of a look-up is the number of the key, where it has one
  pub sought_number : {N : Type 0} (number : N → ℕ) (k : A) (r : Result N ℕ) → Sought order number keys places k r → option_map number (result_ok r) ≡ number_in order keys k
  sought_number number k (Ok n) s = sym s
  sought_number number k (Err i) s = sym (number_unknown k i s.1 s.2)

  pub sought_within : {N : Type 0} (number : N → ℕ) (k : A) (m : ℕ) → length keys ≡ m → (r : Result N ℕ) → Sought order number keys places k r → IfSome (result_ok r) (λ n. number n < m)
  sought_within number k m long (Ok n) s = omega (arith, number_within order keys k (number n) s, long)
  sought_within number k m long (Err i) s = tt
