-- What entries hold.
use Rattle.std.specs.Prelude.{◌≡◌, ℕ, ◌<◌, ◌≤◌, Bool, true, false, ◌||◌, List, [], ◌∷◌, map, length, slice_index_or, Some, Ok, Err, Result, ◌==◌, slice_index}
use Rattle.std.specs.declared.cmp.Ordering.TheVariants.{Less, Greater}
use Rattle.std.specs.declared.cmp.Ordering.{Ordering}
use Rattle.pool.specs.Firsts.{number_in}
use Rattle.pool.specs.declared.entry.Entry.{Entry}

-- what keys mean over the parts
abbrev pub meanings : {K P A : Type 0} → (K → List P → A) → List P → List K → List A
meanings meaning parts ks = map (λ k. meaning k parts) ks

-- the keys by number, as what they mean over the parts
abbrev pub keys_of : {K M P A : Type 0} → (K → List P → A) → List P → List (Entry K M) → List A
keys_of meaning parts entries = map (λ e. meaning e.key parts) entries

-- the marks by number
abbrev pub marks_of : {K M : Type 0} → List (Entry K M) → List M
marks_of entries = map (λ e. e.marks) entries

-- the numbers by slot
abbrev pub places_of : {K M : Type 0} → List (Entry K M) → List ℕ
places_of entries = map (λ e. e.place) entries

-- the key whose number the slot holds
abbrev pub key_in : {A : Type 0} → List A → List ℕ → ℕ → A → A
key_in keys places i d = slice_index_or keys (slice_index places i) d

-- whether the number stands in the list
abbrev pub stands : List ℕ → ℕ → Bool
stands [] n = false
stands (x ∷ xs) n = x == n || stands xs n

-- the slots hold the numbers of all keys, from the smallest key to the largest
pub record Ordered {A : Type 0} (order : A → A → Ordering) (keys : List A) (places : List ℕ) : Type 0 where
  pub long : length places ≡ length keys
  pub below : (i : ℕ) → i < length places → slice_index places i < length keys
  pub rising : (i j : ℕ) (d : A) → i < j → j < length places → order (key_in keys places i d) (key_in keys places j d) ≡ Less
  pub every : (n : ℕ) → n < length keys → stands places n ≡ true

-- each key in the slots before i is below k
abbrev pub Below : {A : Type 0} → (A → A → Ordering) → List A → List ℕ → ℕ → A → Type 0
Below {A} order keys places i k = (j : ℕ) (d : A) → j < i → order (key_in keys places j d) k ≡ Less

-- each key in the slots from i on is above k
abbrev pub Over : {A : Type 0} → (A → A → Ordering) → List A → List ℕ → ℕ → A → Type 0
Over {A} order keys places i k = (j : ℕ) (d : A) → i ≤ j → j < length places → order (key_in keys places j d) k ≡ Greater

-- what the look-up of k answers: its number, or else the slot where a number of its own would go
abbrev pub Sought : {A N : Type 0} → (A → A → Ordering) → (N → ℕ) → List A → List ℕ → A → Result N ℕ → Type 0
Sought order number keys places k (Ok n) = number_in order keys k ≡ Some (number n)
Sought order number keys places k (Err i) = (i ≤ length places) × Below order keys places i k × Over order keys places i k

-- each key lies within so many parts
abbrev pub Reached : {K M : Type 0} → (K → ℕ) → ℕ → List (Entry K M) → Type 0
Reached {K} {M} reach n entries = (i : ℕ) (d : Entry K M) → i < length entries → reach (slice_index_or entries i d).key ≤ n

-- what finding rests on: the slots are sorted, and the keys lie within the parts
pub record FindableIn {K M P A : Type 0} (order : A → A → Ordering) (meaning : K → List P → A) (reach : K → ℕ) (parts : List P) (entries : List (Entry K M)) : Type 0 where
  pub ordered : Ordered order (keys_of meaning parts entries) (places_of entries)
  pub reached : Reached reach (length parts) entries

-- keys can be found in the entries. It is a plain fact, so that a struct which holds entries and parts can state it in a ghost field
abbrev pub SoundIn : {K M P A : Type 0} → (A → A → Ordering) → (K → List P → A) → (K → ℕ) → List P → List (Entry K M) → Type 0
SoundIn order meaning reach parts entries = ∥ FindableIn order meaning reach parts entries ∥₁
