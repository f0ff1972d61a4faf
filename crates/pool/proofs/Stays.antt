-- Parts are stored behind those in use: the keys in the pool mean what they meant, and a key that is moved to the new parts joins them.
use Rattle.std.proofs.Common.{◌≡◌, ℕ, suc, ◌+◌, ◌<◌, ◌≤◌, List, [], ◌∷◌, ◌++◌, length, Ordering, sym, refl, ◌∙◌, subst, ap₂, arith}
use Rattle.std.proofs.lemmas.List.{length-append}
use Rattle.pool.specs.declared.entry.Entry.{Entry}
use Rattle.pool.specs.declared.pool.Pool.{Pool}
use Rattle.pool.specs.Held.{keys_of, places_of, Ordered, Below, Over, Reached, FindableIn}
use Rattle.pool.specs.Moved.{Added}
use Rattle.pool.specs.Order.{Orders}
use Rattle.pool.specs.Pools.{entries_of, in_use, pool_keys}
use Rattle.pool.proofs.Insertion.{pool_keys_push, pool_sound_push}

module _ {K M P A : Type 0} (order : A → A → Ordering) (meaning : K → List P → A) (reach : K → ℕ) (stays : (k : K) (ps qs : List P) → reach k ≤ length ps → meaning k (ps ++ qs) ≡ meaning k ps) (ps qs : List P) where
  keys_stay : (es : List (Entry K M)) → Reached reach (length ps) es → keys_of meaning (ps ++ qs) es ≡ keys_of meaning ps es
  keys_stay [] r = refl
  keys_stay (e ∷ es) r = ap₂ (λ x xs. x ∷ xs) (stays e.key ps qs (r 0 e (omega arith))) (keys_stay es (λ i d h. r (suc i) d (omega arith)))

  sound_stays : (pool : Pool K M) → FindableIn order meaning reach ps (in_use pool) → FindableIn order meaning reach (ps ++ qs) (in_use pool)
  sound_stays pool s = record {
    ordered = subst (λ l. Ordered order l (places_of (in_use pool))) (sym (keys_stay (in_use pool) s.reached)) s.ordered;
    reached = λ i d h. omega (arith, length-append ps qs, s.reached i d h);
  }

  module _ (laws : Orders order) (slot : ℕ) (key : K) (marks : M) (k : A) (old new : Pool K M) (upto : slot ≤ old.used) (room : old.used < length (entries_of old)) (more : new.used ≡ old.used + 1) (a : Added slot old.used key marks (entries_of old) (entries_of new)) (means : meaning key (ps ++ qs) ≡ k) (s : FindableIn order meaning reach ps (in_use old)) where
    pub stored_keys : pool_keys meaning (ps ++ qs) new ≡ pool_keys meaning ps old ++ k ∷ []
    stored_keys = pool_keys_push slot key marks old new upto room more a meaning (ps ++ qs) ∙ ap₂ (λ xs x. xs ++ x ∷ []) (keys_stay (in_use old) s.reached) means

    pub stored_sound : slot ≤ length (places_of (in_use old)) → Below order (pool_keys meaning ps old) (places_of (in_use old)) slot k → Over order (pool_keys meaning ps old) (places_of (in_use old)) slot k → reach key ≤ length (ps ++ qs) → FindableIn order meaning reach (ps ++ qs) (in_use new)
    stored_sound in' below over own = pool_sound_push slot key marks old new upto room more a order laws meaning reach (ps ++ qs) (sound_stays old s) in' below' over' own
      where
        e : pool_keys meaning ps old ≡ pool_keys meaning (ps ++ qs) old
        e = sym (keys_stay (in_use old) s.reached)

        below' : Below order (pool_keys meaning (ps ++ qs) old) (places_of (in_use old)) slot (meaning key (ps ++ qs))
        below' = subst (λ x. Below order (pool_keys meaning (ps ++ qs) old) (places_of (in_use old)) slot x) (sym means) (subst (λ l. Below order l (places_of (in_use old)) slot k) e below)

        over' : Over order (pool_keys meaning (ps ++ qs) old) (places_of (in_use old)) slot (meaning key (ps ++ qs))
        over' = subst (λ x. Over order (pool_keys meaning (ps ++ qs) old) (places_of (in_use old)) slot x) (sym means) (subst (λ l. Over order l (places_of (in_use old)) slot k) e over)
