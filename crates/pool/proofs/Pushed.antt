-- One more key: the slots stay sorted where its number goes in between the slots below it and those above.
use Rattle.std.proofs.Common.{◌≡◌, ℕ, ◌+◌, ◌-◌, ◌<◌, ◌≤◌, true, false, ◌⊎◌, List, [], ◌∷◌, ◌++◌, length, get_or, is_some, Some, Ordering, Less, sym, refl, ap, ◌∙◌, inl, inr, ⊎_elim, arith}
use Rattle.std.proofs.lemmas.Bool.{cases_lt, cases_order}
use Rattle.std.proofs.lemmas.List.{get_or_append_left, get_or_push, length_push}
use Rattle.std.proofs.lemmas.List.Edits.{length-insert, get_or-insert_below, get_or-insert_at, get_or-insert_above}
use Rattle.std.specs.List.{insert}
use Rattle.pool.specs.Order.{Orders}
use Rattle.pool.specs.Firsts.{known, number_in}
use Rattle.pool.specs.Held.{key_in, stands, Ordered, Below, Over}
use Rattle.pool.proofs.Firsts.{known_number}
use Rattle.pool.proofs.Slots.{stands_at, index_of, turned_back, number_found, number_unknown}

module _ {A : Type 0} (order : A → A → Ordering) (laws : Orders order) (keys : List A) (places : List ℕ) (o : Ordered order keys places) (k : A) (s : ℕ) (in' : s ≤ length places) (below : Below order keys places s k) (over : Over order keys places s k) where
  keys' : List A
  keys' = keys ++ k ∷ []

  places' : List ℕ
  places' = insert places s (length keys)

  longer : length places' ≡ length places + 1
  unfolding places'
  longer = length-insert places s (length keys) in'

  longer_keys : length keys' ≡ length keys + 1
  unfolding keys'
  longer_keys = length_push keys k

  -- what a slot holds, before the new one, there, and after it
  place_before : (i : ℕ) → i < s → get_or places' i 0 ≡ get_or places i 0
  unfolding places'
  place_before i h = get_or-insert_below places s (length keys) 0 i h in'

  place_here : get_or places' s 0 ≡ length keys
  unfolding places'
  place_here = get_or-insert_at places s (length keys) 0 in'

  place_after : (i : ℕ) → s ≤ i → get_or places' (i + 1) 0 ≡ get_or places i 0
  unfolding places'
  place_after i h = get_or-insert_above places s (length keys) 0 i h in'

  old_key : (n : ℕ) (d : A) → n < length keys → get_or keys' n d ≡ get_or keys n d
  unfolding keys'
  old_key n d h = get_or_append_left keys (k ∷ []) d n h

  key_before : (i : ℕ) (d : A) → i < s → key_in keys' places' i d ≡ key_in keys places i d
  key_before i d h = ap (λ (n : ℕ). get_or keys' n d) (place_before i h) ∙ old_key (get_or places i 0) d (o.below i (omega arith))

  key_here : (d : A) → key_in keys' places' s d ≡ k
  unfolding keys'
  key_here d = ap (λ (n : ℕ). get_or keys' n d) place_here ∙ get_or_push keys k d (length keys) refl

  key_after : (i : ℕ) (d : A) → s ≤ i → i < length places → key_in keys' places' (i + 1) d ≡ key_in keys places i d
  key_after i d h l = ap (λ (n : ℕ). get_or keys' n d) (place_after i h) ∙ old_key (get_or places i 0) d (o.below i l)

  below' : (i : ℕ) → i < length places' → get_or places' i 0 < length keys'
  below' i h = go (cases_order i s)
    where
      go : (i ≡ s) ⊎ ((i < s) ⊎ (s < i)) → get_or places' i 0 < length keys'
      go (inl e) = grind (arith, e, place_here, longer_keys)
      go (inr (inl l)) = grind (arith, l, place_before i, longer_keys, o.below i)
      go (inr (inr l)) = grind (arith, l, h, longer, place_after (i - 1), longer_keys, o.below (i - 1))

  rising' : (i j : ℕ) (d : A) → i < j → j < length places' → order (key_in keys' places' i d) (key_in keys' places' j d) ≡ Less
  rising' i j d l h = go (cases_order i s) (cases_order j s)
    where
      back : (n : ℕ) → s < n → n < length places' → key_in keys' places' n d ≡ key_in keys places (n - 1) d
      back n t u = grind (arith, t, u, longer, key_after (n - 1) d)

      at : (n : ℕ) → n ≡ s → key_in keys' places' n d ≡ k
      at n e = ap (λ (m : ℕ). key_in keys' places' m d) e ∙ key_here d

      after : (n : ℕ) → s ≤ n → n < length places → order k (key_in keys places n d) ≡ Less
      after n t u = turned_back order laws keys places o (key_in keys places n d) k (over n d t u)

      go : (i ≡ s) ⊎ ((i < s) ⊎ (s < i)) → (j ≡ s) ⊎ ((j < s) ⊎ (s < j)) → order (key_in keys' places' i d) (key_in keys' places' j d) ≡ Less
      go (inl p) (inr (inr q)) = grind (arith, h, longer, q, at i p, back j q h, after (j - 1))
      go (inr (inl p)) (inl q) = grind (arith, p, key_before i d p, at j q, below i d p)
      go (inr (inl p)) (inr (inl q)) = grind (arith, l, p, q, key_before i d p, key_before j d q, o.rising i j d)
      go (inr (inl p)) (inr (inr q)) = grind (arith, h, longer, p, q, key_before i d p, back j q h, o.rising i (j - 1) d)
      go (inr (inr p)) (inr (inr q)) = grind (arith, l, h, longer, p, q, back i p (omega arith), back j q h, o.rising (i - 1) (j - 1) d)
      go (inl p) (inl q) = absurd (omega arith)
      go (inl p) (inr (inl q)) = absurd (omega arith)
      go (inr (inr p)) (inl q) = absurd (omega arith)
      go (inr (inr p)) (inr (inl q)) = absurd (omega arith)

  every' : (n : ℕ) → n < length keys' → stands places' n ≡ true
  every' n h = ⊎_elim old new (cases_lt n (length keys))
    where
      new : length keys ≤ n → stands places' n ≡ true
      new l = stands_at places' s n (grind (arith, longer)) (grind (arith, l, h, longer_keys, place_here))

      old : n < length keys → stands places' n ≡ true
      old l = ⊎_elim before after (cases_lt p.0 s)
        where
          p : (i : ℕ) × (i < length places) × (get_or places i 0 ≡ n)
          p = index_of places n (o.every n l)

          before : p.0 < s → stands places' n ≡ true
          before b = stands_at places' p.0 n (omega (arith, longer, p.1)) (place_before p.0 b ∙ p.2)

          after : s ≤ p.0 → stands places' n ≡ true
          after b = stands_at places' (p.0 + 1) n (omega (arith, longer, p.1)) (place_after p.0 b ∙ p.2)

  pub ordered_push : Ordered order (keys ++ k ∷ []) (insert places s (length keys))
  unfolding keys' places'
  ordered_push = record { long = longer ∙ ap (λ (n : ℕ). n + 1) o.long ∙ sym longer_keys; below = below'; rising = rising'; every = every' }

  -- the new key has the next number
  pub number_pushed : number_in order (keys ++ k ∷ []) k ≡ Some (length keys)
  unfolding keys' places'
  number_pushed =
      number_found order laws keys' places' ordered_push k s k (omega (arith, longer)) (ap (λ x. order x k) (key_here k) ∙ laws.itself k) ∙ ap (λ (n : ℕ). Some n) place_here

  pub unknown : known order keys k ≡ false
  unknown = known_number order keys k ∙ ap is_some (number_unknown order laws keys places o k s below over)
