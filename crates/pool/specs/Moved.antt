-- How entries change, entry by entry.
use Rattle.std.specs.Prelude.{◌≡◌, ℕ, ◌-◌, ◌<◌, ◌≤◌, List, length, slice_index_or}
use Rattle.pool.specs.declared.entry.Entry.{Entry}

-- the numbers in the slots after `slot` come from the slot before, up to `last`; nothing else changes
pub record Shifted {K M : Type 0} (slot last : ℕ) (old new : List (Entry K M)) : Type 0 where
  pub long : length new ≡ length old
  pub moved : (i : ℕ) (d : Entry K M) → slot < i → i ≤ last → (slice_index_or new i d).place ≡ (slice_index_or old (i - 1) d).place
  pub keys : (i : ℕ) (d : Entry K M) → (slice_index_or new i d).key ≡ (slice_index_or old i d).key
  pub marks : (i : ℕ) (d : Entry K M) → (slice_index_or new i d).marks ≡ (slice_index_or old i d).marks
  pub before : (i : ℕ) (d : Entry K M) → i ≤ slot → (slice_index_or new i d).place ≡ (slice_index_or old i d).place
  pub elsewhere : (i : ℕ) (d : Entry K M) → last < i → slice_index_or new i d ≡ slice_index_or old i d

-- entry `used` takes the key and the marks, and its number goes into the slot, from which the slots were shifted
pub record Added {K M : Type 0} (slot used : ℕ) (key : K) (marks : M) (old new : List (Entry K M)) : Type 0 where
  pub long : length new ≡ length old
  pub new_key : (d : Entry K M) → (slice_index_or new used d).key ≡ key
  pub new_marks : (d : Entry K M) → (slice_index_or new used d).marks ≡ marks
  pub old_key : (i : ℕ) (d : Entry K M) → i < used → (slice_index_or new i d).key ≡ (slice_index_or old i d).key
  pub old_marks : (i : ℕ) (d : Entry K M) → i < used → (slice_index_or new i d).marks ≡ (slice_index_or old i d).marks
  pub before : (i : ℕ) (d : Entry K M) → i < slot → (slice_index_or new i d).place ≡ (slice_index_or old i d).place
  pub here : (d : Entry K M) → (slice_index_or new slot d).place ≡ used
  pub after : (i : ℕ) (d : Entry K M) → slot < i → i ≤ used → (slice_index_or new i d).place ≡ (slice_index_or old (i - 1) d).place
  pub elsewhere : (i : ℕ) (d : Entry K M) → used < i → slice_index_or new i d ≡ slice_index_or old i d
