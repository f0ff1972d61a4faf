-- One item more, at the end of its list.
use Rattle.std.proofs.Common.{◌≡◌, ℕ, ◌+◌, ◌-◌, ◌<◌, ◌≤◌, Bool, true, false, cond, ◌&&◌, ◌||◌, eqb, List, [], ◌∷◌, ◌++◌, map, length, get_or, take, drop, set, sym, refl, ap, ◌∙◌, subst, ⊎_elim, arith}
use Rattle.std.proofs.lemmas.List.Edits.{get_or-insert_below, get_or-insert_at, get_or-insert_above, length-insert}
use Rattle.std.proofs.lemmas.List.Elements.{filter-append}
use Rattle.std.proofs.lemmas.List.{append-nil, drop-map, get_or-set_same, get_or-set_other, length-map, map-append, take-append-drop, take-map}
use Rattle.std.proofs.lemmas.Bool.{and_from, and_parts, cases_eq, cases_order, cond-true, cond-false, eq-eqb, le-leb, ne_eqb, or_left}
use Rattle.std.proofs.lemmas.List.Folds.{list_all-append, list_any-append}
use Rattle.std.specs.List.{insert, list_all, list_any}
use Rattle.texts.specs.Lists.{Added}
use Rattle.texts.specs.Texts.{lists_of}
use Rattle.texts.specs.Tokens.{child_above, child_of, every_child_above, items_of, list_at, Sorted, taken_in}
use Rattle.texts.specs.declared.token_tree.Delimiter.{Delimiter}
use Rattle.texts.specs.declared.token_tree.Item.{Item}
use Rattle.texts.specs.declared.lists.Texts.{Texts}
use Rattle.texts.specs.Flats.{ShortText}
use Rattle.texts.specs.declared.token_tree.Text.{Text}
use Rattle.texts.specs.declared.token_tree.Text.TheVariants.{Chars, Group}
use Rattle.texts.proofs.Runs.{list_rises, none_from}

-- the items of a list before a place and from it on
items_split : (k at : ℕ) (items : List Item) → items_of k items ≡ items_of k (take at items) ++ items_of k (drop at items)
items_split k at items =
    ap (items_of k) (sym (take-append-drop at items)) ∙ filter-append (λ (x : Item). eqb x.list k) (take at items) (drop at items)

list_inserted : (items : List Item) (at : ℕ) (item : Item) (i : ℕ)
    → list_at (insert items at item) i ≡ get_or (insert (map (λ x. x.list) items) at item.list) i 256
list_inserted items at item i =
    ap (λ (xs : List ℕ). get_or xs i 256)
    (map-append (λ (x : Item). x.list) (take at items) (item ∷ drop at items)
    ∙ ap (λ (xs : List ℕ). xs ++ (item.list ∷ map (λ x. x.list) (drop at items))) (sym (take-map (λ (x : Item). x.list) at items))
    ∙ ap (λ (xs : List ℕ). take at (map (λ x. x.list) items) ++ (item.list ∷ xs)) (sym (drop-map (λ (x : Item). x.list) at items)))

-- which lists stand in a group, after a group or a text was added
pub taken_by_group : (taken : List Bool) (old new : List Item) (t : Text) (d : Delimiter) (child : ℕ) → t ≡ Group d child → child < length taken
    → ((k : ℕ) → get_or taken k false ≡ taken_in k old) → ((k : ℕ) → taken_in k new ≡ (child_of k t || taken_in k old))
    → (k : ℕ) → get_or (set taken child true) k false ≡ taken_in k new
taken_by_group taken old new t d child is l known more k =
    ⊎_elim
    (λ (e : k ≡ child). ap (λ (n : ℕ). get_or (set taken child true) n false) e ∙ get_or-set_same taken child true false l
    ∙ sym (more k ∙ ap (λ (x : Text). child_of k x || taken_in k old) is ∙ or_left (eqb child k) (taken_in k old) (eq-eqb child k (sym e))))
    (λ (n : k ≡ child → ⊥). get_or-set_other taken child k true false n ∙ known k
    ∙ sym (more k ∙ ap (λ (x : Text). child_of k x || taken_in k old) is ∙ ap (λ (b : Bool). b || taken_in k old) (ne_eqb child k (λ e. n (sym e)))))
    (cases_eq k child)

pub taken_by_text : (taken : List Bool) (old new : List Item) (t : Text) (s : ShortText) → t ≡ Chars s
    → ((k : ℕ) → get_or taken k false ≡ taken_in k old) → ((k : ℕ) → taken_in k new ≡ (child_of k t || taken_in k old))
    → (k : ℕ) → get_or taken k false ≡ taken_in k new
taken_by_text taken old new t s is known more k = known k ∙ sym (more k ∙ ap (λ (x : Text). child_of k x || taken_in k old) is)

-- an item that is inserted where the lists above its own begin
module _ (items : List Item) (at : ℕ) (item : Item) (within : at ≤ length items)
    (before : (i : ℕ) → i < at → list_at items i < item.list + 1)
    (after : (i : ℕ) → at ≤ i → item.list + 1 ≤ list_at items i) where
  pub items_inserted : (k : ℕ) → items_of k (insert items at item) ≡ cond (eqb k item.list) (items_of k items ++ item ∷ []) (items_of k items)
  items_inserted k =
      filter-append (λ (x : Item). eqb x.list k) (take at items) (item ∷ drop at items)
      ∙ ⊎_elim same other (cases_eq k item.list)
    where
      same : k ≡ item.list → items_of k (take at items) ++ items_of k (item ∷ drop at items) ≡ cond (eqb k item.list) (items_of k items ++ item ∷ []) (items_of k items)
      same e =
          let none : items_of k (drop at items) ≡ [] = none_from k at items (λ i h. omega (arith, after i h)) in
          ap (λ (b : Bool). items_of k (take at items) ++ cond b (item ∷ items_of k (drop at items)) (items_of k (drop at items))) (eq-eqb item.list k (sym e))
          ∙ ap (λ (xs : List Item). items_of k (take at items) ++ (item ∷ xs)) none
          ∙ ap (λ (xs : List Item). xs ++ item ∷ []) (sym (append-nil (items_of k (take at items))) ∙ ap (λ (xs : List Item). items_of k (take at items) ++ xs) (sym none) ∙ sym (items_split k at items))
          ∙ sym (cond-true (eqb k item.list) (items_of k items ++ item ∷ []) (items_of k items) (eq-eqb k item.list e))

      other : (k ≡ item.list → ⊥) → items_of k (take at items) ++ items_of k (item ∷ drop at items) ≡ cond (eqb k item.list) (items_of k items ++ item ∷ []) (items_of k items)
      other n =
          ap (λ (b : Bool). items_of k (take at items) ++ cond b (item ∷ items_of k (drop at items)) (items_of k (drop at items))) (ne_eqb item.list k (λ e. n (sym e)))
          ∙ sym (items_split k at items)
          ∙ sym (cond-false (eqb k item.list) (items_of k items ++ item ∷ []) (items_of k items) (ne_eqb k item.list n))

  pub added_inserted : Added item.list item.text items (insert items at item)
  added_inserted = record { items = items_inserted; count = length-insert items at item within }

  below_at : (i : ℕ) → i < at → list_at (insert items at item) i ≡ list_at items i
  below_at i h = list_inserted items at item i ∙ get_or-insert_below (map (λ x. x.list) items) at item.list 256 i h (omega (arith, length-map items (λ x. x.list)))

  just_at : (i : ℕ) → i ≡ at → list_at (insert items at item) i ≡ item.list
  just_at i e =
      ap (list_at (insert items at item)) e ∙ list_inserted items at item at
      ∙ get_or-insert_at (map (λ x. x.list) items) at item.list 256 (omega (arith, length-map items (λ x. x.list)))

  above_at : (i : ℕ) → at < i → list_at (insert items at item) i ≡ list_at items (i - 1)
  above_at i h =
      ap (list_at (insert items at item)) (omega arith) ∙ list_inserted items at item (i - 1 + 1)
      ∙ get_or-insert_above (map (λ x. x.list) items) at item.list 256 (i - 1) (omega arith) (omega (arith, length-map items (λ x. x.list)))

  pub sorted_inserted : Sorted items → Sorted (insert items at item)
  sorted_inserted s i j h =
      le-leb (list_at (insert items at item) i) (list_at (insert items at item) j) (grind (
        arith,
        cases_order i at,
        cases_order j at,
        below_at i,
        below_at j,
        just_at i,
        just_at j,
        above_at i,
        above_at j,
        before i,
        after (j - 1),
        list_rises items s i j,
        list_rises items s i (j - 1),
        list_rises items s (i - 1) (j - 1),
      ))

  pub above_inserted : every_child_above items ≡ true → child_above item.list item.text ≡ true → every_child_above (insert items at item) ≡ true
  above_inserted h k =
      let above : Item → Bool = λ x. child_above x.list x.text in
      let parts = and_parts (list_all above (take at items)) (list_all above (drop at items))
      (sym (list_all-append above (take at items) (drop at items)) ∙ ap (list_all above) (take-append-drop at items) ∙ h) in
      list_all-append above (take at items) (item ∷ drop at items)
      ∙ and_from (list_all above (take at items)) (above item && list_all above (drop at items)) parts.0
      (and_from (above item) (list_all above (drop at items)) k parts.1)

  pub taken_inserted : (k : ℕ) → taken_in k (insert items at item) ≡ (child_of k item.text || taken_in k items)
  taken_inserted k =
      let child : Item → Bool = λ x. child_of k x.text in
      list_any-append child (take at items) (item ∷ drop at items)
      ∙ moved (list_any child (take at items)) (child item) (list_any child (drop at items))
      ∙ ap (λ (b : Bool). child item || b) (sym (list_any-append child (take at items) (drop at items)) ∙ ap (list_any child) (take-append-drop at items))
    where
      moved : (a b c : Bool) → (a || (b || c)) ≡ (b || (a || c))
      moved true true c = refl
      moved true false c = refl
      moved false true c = refl
      moved false false c = refl

-- what holds of the lists once the item stands there
pub record Grown (old new : List Item) (item : Item) : Type 0 where
  pub sorted : Sorted new
  pub above : every_child_above new ≡ true
  pub taken : (k : ℕ) → taken_in k new ≡ (child_of k item.text || taken_in k old)
  pub added : Added item.list item.text old new

-- `done` says whether the insertion was carried out
pub grown : (t : Texts) (at : ℕ) (item : Item) (new : List Item) (done : Bool) → new ≡ cond done (insert (lists_of t) at item) (lists_of t) → done ≡ true
    → at ≤ length (lists_of t) → ((i : ℕ) → i < at → list_at (lists_of t) i < item.list + 1) → ((i : ℕ) → at ≤ i → item.list + 1 ≤ list_at (lists_of t) i)
    → child_above item.list item.text ≡ true → Grown (lists_of t) new item
grown t at item new done is e within before after above =
    let old : List Item = lists_of t in
    let placed : insert old at item ≡ new = sym (is ∙ cond-true done (insert old at item) old e) in
    subst (λ (xs : List Item). Grown old xs item) placed
    (record {
      sorted = sorted_inserted old at item within before after t.sorted;
      above = above_inserted old at item within before after t.above above;
      taken = taken_inserted old at item within before after;
      added = added_inserted old at item within before after;
    })
