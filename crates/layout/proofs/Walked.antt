-- Tests of every item of a list, and of every number below another, as chains of iterators make them.
use Rattle.std.proofs.Common.{◌≡◌, ℕ, zero, suc, ◌+◌, ◌≤◌, Bool, true, false, ◌&&◌, ◌||◌, List, [], ◌∷◌, ◌++◌, length, get_or, take, fold, sym, refl, ap, ap₂, ◌∙◌, add-one, zero-add, arith}
use Rattle.std.proofs.lemmas.List.Folds.{list_all-append, list_all_more, list_any-append}
use Rattle.std.proofs.lemmas.List.FromFn.{get_or-enumerate_from, length-enumerate_from}
use Rattle.std.proofs.lemmas.List.{take_all}
use Rattle.std.specs.List.{enumerate_from, list_all, list_any, range_with_len}
use Rattle.components.specs.Alignments.{alignment, overall, together}
use Rattle.components.specs.Concatenations.{all_of, some_of}
use Rattle.components.specs.declared.concatenation.FillerAlign.{FillerAlign}
use Rattle.components.specs.declared.concatenation.FillerAlign.TheVariants.{Single}
use Rattle.components.proofs.Aligned.{overall_more}
use Rattle.layout.specs.Claims.{alignments, every_below, some_below}
use Rattle.layout.specs.Layouts.{Described, comps_at}

pub all_same : {A : Type 0} (test : A → Bool) (xs : List A) → list_all test xs ≡ all_of test xs
all_same test [] = refl
all_same test (x ∷ xs) = ap (λ b. test x && b) (all_same test xs)

pub some_same : {A : Type 0} (test : A → Bool) (xs : List A) → list_any test xs ≡ some_of test xs
some_same test [] = refl
some_same test (x ∷ xs) = ap (λ b. test x || b) (some_same test xs)

-- a test that follows one that passes
pub within : (a b : Bool) → a ≡ true → b ≡ (a && b)
within true b e = refl
within false b e = cc

-- one number more
range_more : (a n : ℕ) → range_with_len a (suc n) ≡ range_with_len a n ++ (a + n) ∷ []
range_more a zero = ap (λ i. i ∷ []) (omega arith)
range_more a (suc n) = ap (λ xs. a ∷ xs) (range_more (a + 1) n ∙ ap (λ i. range_with_len (a + 1) n ++ i ∷ []) (omega arith))

alone_and : (b : Bool) → (b && true) ≡ b
alone_and true = refl
alone_and false = refl

alone_or : (b : Bool) → (b || false) ≡ b
alone_or true = refl
alone_or false = refl

module _ (test : ℕ → Bool) where
  pub every_range : (n : ℕ) → list_all test (range_with_len 0 n) ≡ every_below test n
  every_range zero = refl
  every_range (suc n) =
      ap (list_all test) (range_more 0 n)
      ∙ list_all-append test (range_with_len 0 n) ((0 + n) ∷ [])
      ∙ ap₂ (λ a b. a && b) (every_range n) (alone_and (test (0 + n)) ∙ ap test (zero-add n))

  pub some_range : (n : ℕ) → list_any test (range_with_len 0 n) ≡ some_below test n
  some_range zero = refl
  some_range (suc n) =
      ap (list_any test) (range_more 0 n)
      ∙ list_any-append test (range_with_len 0 n) ((0 + n) ∷ [])
      ∙ ap₂ (λ a b. a || b) (some_range n) (alone_or (test (0 + n)) ∙ ap test (zero-add n))

-- each item with its number, of the first n
every_of : {X : Type 0} (f : ℕ → X → Bool) (xs : List X) (d : X) (n : ℕ) → n ≤ length xs
    → list_all (λ (p : ℕ × X). f p.0 p.1) (take n (enumerate_from 0 xs)) ≡ every_below (λ k. f k (get_or xs k d)) n
every_of f xs d zero h = refl
every_of {X} f xs d (suc n) h =
    let test : ℕ × X → Bool = λ p. f p.0 p.1 in
    ap (λ (m : ℕ). list_all test (take m (enumerate_from 0 xs))) (sym (add-one n))
    ∙ list_all_more test (enumerate_from 0 xs) n (0, d) (omega (arith, length-enumerate_from 0 xs))
    ∙ ap₂ (λ a b. a && b) (every_of f xs d n (omega arith))
    (ap test (get_or-enumerate_from 0 xs n (0, d) (omega arith)) ∙ ap (λ (k : ℕ). f k (get_or xs n d)) (zero-add n))

-- and of all
pub every_numbered : {X : Type 0} (f : ℕ → X → Bool) (xs : List X) (d : X) → list_all (λ (p : ℕ × X). f p.0 p.1) (enumerate_from 0 xs) ≡ every_below (λ k. f k (get_or xs k d)) (length xs)
every_numbered {X} f xs d =
    ap (list_all (λ (p : ℕ × X). f p.0 p.1)) (sym (take_all (length xs) (enumerate_from 0 xs) (omega (arith, length-enumerate_from 0 xs))))
    ∙ every_of f xs d (length xs) (omega arith)

-- a fold with one item more at the end
fold_more : {A B : Type 0} (h : B → A → B) (xs : List A) (b : B) (x : A) → fold h b (xs ++ x ∷ []) ≡ h (fold h b xs) x
fold_more h [] b x = refl
fold_more h (y ∷ ys) b x = fold_more h ys (h b y) x

pub overall_range : (d : Described) (n : ℕ)
    → fold (λ (a : FillerAlign) (k : ℕ). together a (alignment (comps_at d k))) Single (range_with_len 0 n) ≡ overall (alignments d n)
overall_range d zero = refl
overall_range d (suc n) =
    let h : FillerAlign → ℕ → FillerAlign = λ a k. together a (alignment (comps_at d k)) in
    ap (fold h Single) (range_more 0 n)
    ∙ fold_more h (range_with_len 0 n) Single (0 + n)
    ∙ ap₂ h (overall_range d n) (zero-add n)
    ∙ sym (overall_more (alignments d n) (alignment (comps_at d n)))
