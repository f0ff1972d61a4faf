-- What entries hold, entry by entry.
use Rattle.std.proofs.Common.{◌≡◌, ℕ, ◌<◌, List, length, get_or, Ordering, ap, ◌∙◌, arith}
use Rattle.std.proofs.lemmas.List.{get_or-map, length-map}
use Rattle.pool.specs.declared.entry.Entry.{Entry}
use Rattle.pool.specs.Held.{keys_of, places_of, key_in, Ordered}

module _ {K M P A : Type 0} (meaning : K → List P → A) (ps : List P) (es : List (Entry K M)) where
  pub length_keys : length (keys_of meaning ps es) ≡ length es
  length_keys = length-map es (λ e. meaning e.key ps)

  pub key_at : (n : ℕ) (e : Entry K M) (d : A) → n < length es → get_or (keys_of meaning ps es) n d ≡ meaning (get_or es n e).key ps
  key_at n e d h = get_or-map (λ x. meaning x.key ps) es n e d h

module _ {K M : Type 0} (es : List (Entry K M)) where
  pub length_places : length (places_of es) ≡ length es
  length_places = length-map es (λ e. e.place)

  pub place_at : (i : ℕ) (e : Entry K M) → i < length es → get_or (places_of es) i 0 ≡ (get_or es i e).place
  place_at i e h = get_or-map (λ x. x.place) es i e 0 h

module _ {K M P A : Type 0} (meaning : K → List P → A) (order : A → A → Ordering) (ps : List P) (es : List (Entry K M)) (o : Ordered order (keys_of meaning ps es) (places_of es)) where
  -- a slot holds the number of an entry
  pub place_within : (i : ℕ) (e : Entry K M) → i < length es → (get_or es i e).place < length es
  place_within i e h =
      let p = place_at es i e h in
      let n = length_keys meaning ps es in
      let b = o.below i (rw (length_places es) h) in
      omega arith

  -- the key in a slot is that of the entry whose number the slot holds
  pub key_in_at : (i : ℕ) (e f : Entry K M) (d : A) → i < length es → key_in (keys_of meaning ps es) (places_of es) i d ≡ meaning (get_or es (get_or es i e).place f).key ps
  key_in_at i e f d h =
      ap (λ (n : ℕ). get_or (keys_of meaning ps es) n d) (place_at es i e h) ∙ key_at meaning ps es (get_or es i e).place f d (place_within i e h)
