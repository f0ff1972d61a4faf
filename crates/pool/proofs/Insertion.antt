-- What the entries in use hold once one more is added.
use Rattle.std.proofs.Common.{◌≡◌, ℕ, ◌+◌, ◌-◌, ◌<◌, ◌≤◌, ◌⊎◌, List, [], ◌∷◌, ◌++◌, map, length, get_or, take, Ordering, sym, ap, ◌∙◌, subst, inl, inr, arith}
use Rattle.std.proofs.lemmas.Bool.{cases_order}
use Rattle.std.proofs.lemmas.Grind.{common_steps}
use Rattle.std.proofs.lemmas.List.{length-map, length-take-le, get_or-map, same_lists}
use Rattle.std.proofs.lemmas.List.Edits.{length-insert, get_or-insert_below, get_or-insert_at, get_or-insert_above}
use Rattle.std.specs.List.{insert}
use Rattle.pool.specs.declared.entry.Entry.{Entry}
use Rattle.pool.specs.declared.pool.Pool.{Pool}
use Rattle.pool.specs.Held.{keys_of, marks_of, places_of, Ordered, Below, Over, Reached, FindableIn}
use Rattle.pool.specs.Moved.{Added}
use Rattle.pool.specs.Order.{Orders}
use Rattle.pool.specs.Pools.{entries_of, in_use, pool_keys, pool_marks}
use Rattle.pool.proofs.InUse.{long_keys}
use Rattle.pool.proofs.Pushed.{ordered_push}

module _ {K M : Type 0} (slot used : ℕ) (key : K) (marks : M) (old new : List (Entry K M)) (upto : slot ≤ used) (room : used < length old) (a : Added slot used key marks old new) where
  -- an entry, for where a list wants a default
  some : Entry K M
  some = record { key = key; marks = marks; place = used }

  long_old : length (take used old) ≡ used
  long_old = length-take-le used old (omega arith)

  long_new : length (take (used + 1) new) ≡ used + 1
  long_new = length-take-le (used + 1) new (omega (arith, a.long))

  -- what is said of the entries before the new one stays, where it does not look at their slots
  mapped_push : {Y : Type 0} (f : Entry K M → Y) (y : Y) → ((i : ℕ) (d : Entry K M) → i < used → f (get_or new i d) ≡ f (get_or old i d)) → f (get_or new used some) ≡ y → map f (take (used + 1) new) ≡ map f (take used old) ++ y ∷ []
  mapped_push f y same last = same_lists _ _ (grind (arith, common_steps, length-map (take (used + 1) new) f, length-map (take used old) f, long_old, long_new)) (λ i d h. grind (arith, common_steps, h, long_old, long_new, last, same i some, length-map (take (used + 1) new) f, get_or-map f (take (used + 1) new) i some d, get_or-map f (take used old) i some d))

  pub keys_push : {P A : Type 0} (meaning : K → List P → A) (ps : List P) → keys_of meaning ps (take (used + 1) new) ≡ keys_of meaning ps (take used old) ++ meaning key ps ∷ []
  keys_push meaning ps = mapped_push (λ e. meaning e.key ps) (meaning key ps) (λ i d h. ap (λ k. meaning k ps) (a.old_key i d h)) (ap (λ k. meaning k ps) (a.new_key some))

  pub marks_push : marks_of (take (used + 1) new) ≡ marks_of (take used old) ++ marks ∷ []
  marks_push = mapped_push (λ e. e.marks) marks (λ i d h. a.old_marks i d h) (a.new_marks some)

  pub places_inserted : places_of (take (used + 1) new) ≡ insert (places_of (take used old)) slot used
  places_inserted = same_lists _ _ (grind (arith, common_steps, long, long_new, length-insert olds slot used, length-map (take (used + 1) new) (λ e. e.place))) each
    where
      olds : List ℕ
      olds = places_of (take used old)

      long : length olds ≡ used
      long = length-map (take used old) (λ e. e.place) ∙ long_old

      each : (i : ℕ) (d : ℕ) → i < length (places_of (take (used + 1) new)) → get_or (places_of (take (used + 1) new)) i d ≡ get_or (insert olds slot used) i d
      each i d h = go (cases_order i slot)
        where
          l : i < used + 1
          l = omega (arith, length-map (take (used + 1) new) (λ e. e.place), long_new)

          new_at : get_or (places_of (take (used + 1) new)) i d ≡ (get_or new i some).place
          new_at = grind (arith, common_steps, l, long_new, get_or-map (λ e. e.place) (take (used + 1) new) i some d)

          old_at : (j : ℕ) → j < used → get_or olds j d ≡ (get_or old j some).place
          old_at j k = grind (arith, common_steps, k, long_old, get_or-map (λ e. e.place) (take used old) j some d)

          go : (i ≡ slot) ⊎ ((i < slot) ⊎ (slot < i)) → get_or (places_of (take (used + 1) new)) i d ≡ get_or (insert olds slot used) i d
          go (inl e) = grind (arith, new_at, a.here some, get_or-insert_at olds slot used d, long, e)
          go (inr (inl b)) = grind (arith, new_at, a.before i some b, old_at i, get_or-insert_below olds slot used d i b, long)
          go (inr (inr b)) = grind (arith, new_at, a.after i some b, l, old_at (i - 1), get_or-insert_above olds slot used d (i - 1), long)

  pub reached_push : (reach : K → ℕ) (n : ℕ) → Reached reach n (take used old) → reach key ≤ n → Reached reach n (take (used + 1) new)
  reached_push reach n old-ones this i d h = grind (arith, common_steps, h, this, long_old, long_new, a.old_key i d, a.new_key d, old-ones i d)

-- the same of a pool
module _ {K M : Type 0} (slot : ℕ) (key : K) (marks : M) (old new : Pool K M) (upto : slot ≤ old.used) (room : old.used < length (entries_of old)) (more : new.used ≡ old.used + 1) (a : Added slot old.used key marks (entries_of old) (entries_of new)) where
  pushed_in_use : in_use new ≡ take (old.used + 1) (entries_of new)
  pushed_in_use = ap (λ (n : ℕ). take n (entries_of new)) more

  pub pool_keys_push : {P A : Type 0} (meaning : K → List P → A) (ps : List P) → pool_keys meaning ps new ≡ pool_keys meaning ps old ++ meaning key ps ∷ []
  pool_keys_push meaning ps = ap (λ l. keys_of meaning ps l) pushed_in_use ∙ keys_push slot old.used key marks (entries_of old) (entries_of new) upto room a meaning ps

  pub pool_marks_push : pool_marks new ≡ pool_marks old ++ marks ∷ []
  pool_marks_push = ap (λ l. marks_of l) pushed_in_use ∙ marks_push slot old.used key marks (entries_of old) (entries_of new) upto room a

  places_push : {P A : Type 0} (meaning : K → List P → A) (ps : List P) → places_of (in_use new) ≡ insert (places_of (in_use old)) slot (length (pool_keys meaning ps old))
  places_push meaning ps =
      ap (λ l. places_of l) pushed_in_use ∙ places_inserted slot old.used key marks (entries_of old) (entries_of new) upto room a
      ∙ ap (λ (n : ℕ). insert (places_of (in_use old)) slot n) (sym (long_keys old meaning ps))

  pub pool_sound_push : {P A : Type 0} (order : A → A → Ordering) (laws : Orders order) (meaning : K → List P → A) (reach : K → ℕ) (ps : List P) → FindableIn order meaning reach ps (in_use old) → slot ≤ length (places_of (in_use old)) → Below order (pool_keys meaning ps old) (places_of (in_use old)) slot (meaning key ps) → Over order (pool_keys meaning ps old) (places_of (in_use old)) slot (meaning key ps) → reach key ≤ length ps → FindableIn order meaning reach ps (in_use new)
  pool_sound_push order laws meaning reach ps s in' below over own = record {
    ordered = subst (λ l. Ordered order l (places_of (in_use new))) (sym (pool_keys_push meaning ps)) (subst (λ l. Ordered order (pool_keys meaning ps old ++ meaning key ps ∷ []) l) (sym (places_push meaning ps)) (ordered_push order laws (pool_keys meaning ps old) (places_of (in_use old)) s.ordered (meaning key ps) slot in' below over));
    reached = subst (λ l. Reached reach (length ps) l) (sym pushed_in_use) (reached_push slot old.used key marks (entries_of old) (entries_of new) upto room a reach (length ps) s.reached own);
  }
