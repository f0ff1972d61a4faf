-- Items sorted by list: where they stand, and the run of one list.
use Rattle.std.proofs.Common.{◌≡◌, ℕ, suc, ◌+◌, ◌-◌, ◌<◌, ◌≤◌, Bool, true, false, cond, eqb, ltb, List, [], ◌∷◌, ◌++◌, map, length, get_or, take, drop, sym, refl, ap, ◌∙◌, ⊎_elim, arith}
use Rattle.std.proofs.lemmas.List.Edits.{split_between, length-between}
use Rattle.std.proofs.lemmas.List.Elements.{filter-append}
use Rattle.std.proofs.lemmas.List.{append-nil, get_or-drop, get_or-map, get_or_past, get_or-take, drop-map, length-map, length-take, take-map}
use Rattle.std.proofs.lemmas.Bool.{cases_lt, eq-eqb, leb-true, ltb-false, ltb-true, ne_eqb}
use Rattle.std.specs.List.{between}
use Rattle.std.specs.List.Sorted.{IsNonDecreasingBy, IsPartitionPoint}
use Rattle.texts.specs.Tokens.{items_of, list_at, Sorted}
use Rattle.texts.specs.declared.token_tree.Item.{Item}
use Rattle.texts.specs.declared.token_tree.Delimiter.TheVariants.{None}
use Rattle.texts.specs.declared.token_tree.Text.TheVariants.{Group}

pub list_past : (items : List Item) (i : ℕ) → length items ≤ i → list_at items i ≡ 256
list_past items i h = get_or_past (map (λ item. item.list) items) i 256 (omega (arith, length-map items (λ item. item.list)))

pub list_rises : (items : List Item) → Sorted items → (i j : ℕ) → i ≤ j → list_at items i ≤ list_at items j
list_rises items s i j h =
    ⊎_elim
    (λ (l : i < j). leb-true (list_at items i) (list_at items j) (s i j l))
    (λ (g : j ≤ i). let e : i ≡ j = omega arith in omega (arith, ap (list_at items) e))
    (cases_lt i j)

list_take : (items : List Item) (n i : ℕ) → i < n → list_at (take n items) i ≡ list_at items i
list_take items n i h =
    ap (λ (xs : List ℕ). get_or xs i 256) (sym (take-map (λ (x : Item). x.list) n items)) ∙ get_or-take n (map (λ item. item.list) items) i 256 h

list_drop : (items : List Item) (n i : ℕ) → list_at (drop n items) i ≡ list_at items (n + i)
list_drop items n i =
    ap (λ (xs : List ℕ). get_or xs i 256) (sym (drop-map (λ (x : Item). x.list) n items)) ∙ get_or-drop n (map (λ item. item.list) items) i 256

-- no item of the list
none_of : (k : ℕ) (items : List Item) → ((i : ℕ) → i < length items → list_at items i ≡ k → ⊥) → items_of k items ≡ []
none_of k [] h = refl
none_of k (x ∷ xs) h =
    ap (λ (b : Bool). cond b (x ∷ items_of k xs) (items_of k xs)) (ne_eqb x.list k (h 0 (omega arith)))
    ∙ none_of k xs (λ i l. h (suc i) (omega arith))

-- items of the list alone
all_of : (k : ℕ) (items : List Item) → ((i : ℕ) → i < length items → list_at items i ≡ k) → items_of k items ≡ items
all_of k [] h = refl
all_of k (x ∷ xs) h =
    ap (λ (b : Bool). cond b (x ∷ items_of k xs) (items_of k xs)) (eq-eqb x.list k (h 0 (omega arith)))
    ∙ ap (λ (ys : List Item). x ∷ ys) (all_of k xs (λ i l. h (suc i) (omega arith)))

-- before an item of which each list is below, and from one on of which each list is above
pub none_before : (k n : ℕ) (items : List Item) → ((i : ℕ) → i < n → list_at items i < k) → items_of k (take n items) ≡ []
none_before k n items h =
    none_of k (take n items) (λ i l e. let m : i < n = omega (arith, length-take n items) in omega (arith, h i m, list_take items n i m))

pub none_from : (k n : ℕ) (items : List Item) → ((i : ℕ) → n ≤ i → k < list_at items i) → items_of k (drop n items) ≡ []
none_from k n items h = none_of k (drop n items) (λ i l e. omega (arith, h (n + i) (omega arith), list_drop items n i))

-- a list begins before it ends
run_ordered : (k from to : ℕ) (items : List Item) → ((i : ℕ) → i < from → list_at items i < k) → ((i : ℕ) → to ≤ i → k + 1 ≤ list_at items i) → from ≤ to
run_ordered k from to items below past =
    ⊎_elim (λ (l : to < from). absurd (omega (arith, below to l, past to (omega arith)))) (λ (g : from ≤ to). g) (cases_lt to from)

-- the items of a list stand in one run
pub run_is : (k from to : ℕ) (items : List Item) → to ≤ length items
    → ((i : ℕ) → i < from → list_at items i < k) → ((i : ℕ) → from ≤ i → k ≤ list_at items i)
    → ((i : ℕ) → i < to → list_at items i < k + 1) → ((i : ℕ) → to ≤ i → k + 1 ≤ list_at items i)
    → between from to items ≡ items_of k items
run_is k from to items fits below above upto past =
    sym (ap (items_of k) (split_between items from to ordered)
    ∙ filter-append (λ (x : Item). eqb x.list k) (take from items) (between from to items ++ drop to items)
    ∙ ap (λ (xs : List Item). xs ++ items_of k (between from to items ++ drop to items)) (none_before k from items below)
    ∙ filter-append (λ (x : Item). eqb x.list k) (between from to items) (drop to items)
    ∙ ap (λ (xs : List Item). items_of k (between from to items) ++ xs) (none_from k to items (λ i h. omega (arith, past i h)))
    ∙ append-nil (items_of k (between from to items))
    ∙ all_of k (between from to items) inner)
  where
    ordered : from ≤ to
    ordered = run_ordered k from to items below past

    inner : (i : ℕ) → i < length (between from to items) → list_at (between from to items) i ≡ k
    inner i l =
        let m : i < to - from = omega (arith, length-between items from to fits) in
        let e : list_at (between from to items) i ≡ list_at items (from + i) = list_take (drop from items) (to - from) i m ∙ list_drop items from i in
        omega (arith, e, above (from + i) (omega arith), upto (from + i) (omega arith))

-- the lists of items rise from item to item
pub lists_rise : (items : List Item) → Sorted items → IsNonDecreasingBy (λ (x : Item). x.list) items
lists_rise items s i j d h l =
    omega (
      arith,
      get_or-map (λ (x : Item). x.list) items i d 256 (omega arith),
      get_or-map (λ (x : Item). x.list) items j d 256 l,
      list_rises items s i j h,
    )

-- the lists before and from where the items of those from `list` on begin
module _ (items : List Item) (list at : ℕ) (within : at ≤ length items)
    (point : IsPartitionPoint (λ (x : Item). ltb x.list list ≡ true) (λ (x : Item). ltb x.list list ≡ false) items at) where
  -- an item to read by, where there is none
  no_item : Item
  no_item = record { list = 0; text = Group None 0 }

  pub below_point : (i : ℕ) → i < at → list_at items i < list
  below_point i h =
      omega (arith, get_or-map (λ (x : Item). x.list) items i no_item 256 (omega arith), ltb-true _ _ (point.0 i no_item (omega arith) h))

  pub from_point : list ≤ 256 → (i : ℕ) → at ≤ i → list ≤ list_at items i
  from_point there i h =
      ⊎_elim
      (λ (l : i < length items). omega (arith, get_or-map (λ (x : Item). x.list) items i no_item 256 l, ltb-false _ _ (point.1 i no_item h l)))
      (λ (g : length items ≤ i). omega (arith, list_past items i g))
      (cases_lt i (length items))
