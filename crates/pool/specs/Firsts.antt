-- Series of keys: first occurrences and numbers.
use Rattle.std.specs.Prelude.{ℕ, suc, ◌<◌, Bool, false, cond, ◌||◌, List, [], ◌∷◌, ◌++◌, length, Some, None, Option, ◌≢◌, slice_index_or}
use Rattle.std.specs.declared.cmp.Ordering.TheVariants.{Equal}
use Rattle.std.specs.declared.cmp.Ordering.{Ordering}
use Rattle.std.specs.Option.{option_map}
use Rattle.std.specs.Ordering.{is_eq}

module _ {A : Type 0} (order : A → A → Ordering) where
  -- whether the key stands in the list
  abbrev pub known : List A → A → Bool
  known [] k = false
  known (x ∷ xs) k = is_eq (order x k) || known xs k

  -- the number of a key: how many keys stand before it, and none where it is unknown
  abbrev pub number_in : List A → A → Option ℕ
  number_in [] k = None
  number_in (x ∷ xs) k = cond (is_eq (order x k)) (Some 0) (option_map suc (number_in xs k))

  -- the list after one more insertion: an unknown key stands at its end
  abbrev pub with_key : List A → A → List A
  with_key ks k = cond (known ks k) ks (ks ++ k ∷ [])

  -- the list without the key
  abbrev pub without : A → List A → List A
  without k [] = []
  without k (x ∷ xs) = cond (is_eq (order k x)) (without k xs) (x ∷ without k xs)

  -- the first occurrences of a series: its first key, and then those of the rest but for that key
  abbrev pub firsts : List A → List A
  firsts [] = []
  firsts (k ∷ ks) = k ∷ without k (firsts ks)

  -- no key stands in the list twice
  abbrev pub Once : List A → Type 0
  Once ks = (i j : ℕ) (d : A) → i < j → j < length ks → order (slice_index_or ks i d) (slice_index_or ks j d) ≢ Equal
