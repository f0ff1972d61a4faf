-- What a pool holds.
use Rattle.std.specs.Prelude.{ℕ, List, take}
use Rattle.std.specs.declared.cmp.Ordering.{Ordering}
use Rattle.pool.specs.declared.entry.Entry.{Entry}
use Rattle.pool.specs.declared.pool.Pool.{Pool}
use Rattle.pool.specs.Held.{keys_of, marks_of, FindableIn}

-- all entries that were lent to the pool
abbrev pub entries_of : {K M : Type 0} → Pool K M → List (Entry K M)
entries_of pool = pool.entries.now

-- the entries in use, by number
abbrev pub in_use : {K M : Type 0} → Pool K M → List (Entry K M)
in_use pool = take pool.used (entries_of pool)

-- the keys by number, as what they mean over the parts
abbrev pub pool_keys : {K M P A : Type 0} → (K → List P → A) → List P → Pool K M → List A
pool_keys meaning parts pool = keys_of meaning parts (in_use pool)

-- the marks by number
abbrev pub pool_marks : {K M : Type 0} → Pool K M → List M
pool_marks pool = marks_of (in_use pool)

-- what finding rests on: the slots are sorted, and the keys lie within the parts
abbrev pub Findable : {K M P A : Type 0} → (A → A → Ordering) → (K → List P → A) → (K → ℕ) → List P → Pool K M → Type 0
Findable order meaning reach parts pool = FindableIn order meaning reach parts (in_use pool)

-- keys can be found in the pool. It is a plain fact, so that a struct which holds a pool and its parts can state it in a ghost field
abbrev pub Sound : {K M P A : Type 0} → (A → A → Ordering) → (K → List P → A) → (K → ℕ) → List P → Pool K M → Type 0
Sound order meaning reach parts pool = ∥ Findable order meaning reach parts pool ∥₁
