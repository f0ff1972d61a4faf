-- Stretches of a list that grows at its end.
use Rattle.std.proofs.Common.{◌≡◌, ℕ, ◌+◌, ◌-◌, ◌<◌, ◌≤◌, List, [], ◌∷◌, ◌++◌, length, take, drop, sym, ap, ◌∙◌, ap₂, arith}
use Rattle.std.specs.List.{between}
use Rattle.std.proofs.lemmas.List.Edits.{between_none}
use Rattle.std.proofs.lemmas.List.{drop-append-le, get_or_default, length-drop, take-append-le}
use Rattle.std.proofs.lemmas.Slice.{between_to_end}
use Rattle.layout.specs.Starts.{concat_at, start_at}
use Rattle.layout.proofs.StartLaws.{start_past, start_push}
use Rattle.layout_laws.specs.Growth.{AddedToTheLast, Beginnings, BegunEmpty}

-- a stretch that ends before the new elements
between_append : {C : Type 0} (i j : ℕ) (xs ys : List C) → i ≤ j → j ≤ length xs → between i j (xs ++ ys) ≡ between i j xs
between_append i j xs ys h l =
    ap (take (j - i)) (drop-append-le i xs ys (omega arith))
    ∙ take-append-le (j - i) (drop i xs) ys (omega (arith, length-drop i xs))

-- a stretch up to the end
rest_append : {C : Type 0} (i : ℕ) (xs ys : List C) → i ≤ length xs → between i (length (xs ++ ys)) (xs ++ ys) ≡ between i (length xs) xs ++ ys
rest_append i xs ys h =
    between_to_end (xs ++ ys) i (length (xs ++ ys)) (omega arith)
    ∙ drop-append-le i xs ys h
    ∙ ap (λ zs. zs ++ ys) (sym (between_to_end xs i (length xs) (omega arith)))

module _ {C : Type 0} (starts : List ℕ) (components : List C) (c : C) (b : Beginnings starts (length components)) where
  -- a beginning does not move
  same_start : (k : ℕ) → k < length starts → start_at starts (length (components ++ c ∷ [])) k ≡ start_at starts (length components) k
  same_start k h = get_or_default starts k (length (components ++ c ∷ [])) (length components) h

  before_last : (k : ℕ) → k < length starts - 1 → concat_at starts (components ++ c ∷ []) k ≡ concat_at starts components k
  before_last k h =
      ap₂ (λ i j. between i j (components ++ c ∷ [])) (same_start k (omega arith)) (same_start (k + 1) (omega arith))
      ∙ between_append (start_at starts (length components) k) (start_at starts (length components) (k + 1)) components (c ∷ [])
      (b.rising k) (b.inside (k + 1))

  at_last : 0 < length starts → concat_at starts (components ++ c ∷ []) (length starts - 1) ≡ concat_at starts components (length starts - 1) ++ c ∷ []
  at_last h =
      let last : ℕ = length starts - 1 in
      ap₂ (λ i j. between i j (components ++ c ∷ [])) (same_start last (omega arith)) (start_past starts (length (components ++ c ∷ [])) (last + 1) (omega arith))
      ∙ rest_append (start_at starts (length components) last) components (c ∷ []) (b.inside last)
      ∙ ap (λ j. between (start_at starts (length components) last) j components ++ c ∷ []) (sym (start_past starts (length components) (last + 1) (omega arith)))

pub added_to_the_last : AddedToTheLast
added_to_the_last starts components c b h = (before_last starts components c b, at_last starts components c b h)

pub begun_empty : BegunEmpty
begun_empty starts components =
    let n : ℕ = length components in (
      λ k h. ap₂ (λ i j. between i j components) (start_push starts n k) (start_push starts n (k + 1)),
      ap₂ (λ i j. between i j components)
          (start_push starts n (length starts) ∙ start_past starts n (length starts) (omega arith))
          (start_push starts n (length starts + 1) ∙ start_past starts n (length starts + 1) (omega arith))
          ∙ between_none components n,
    )
