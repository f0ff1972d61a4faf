-- The text of a list: how far groups go, and the step from item to item.
use Rattle.std.proofs.Common.{◌≡◌, ℕ, zero, suc, ◌+◌, ◌<◌, ◌≤◌, Bool, true, false, cond, eqb, ltb, leb, List, [], ◌∷◌, ◌++◌, length, get_or, drop, sym, refl, ap, ◌∙◌, ⊎_elim, arith, length-append}
use Rattle.std.proofs.lemmas.List.{append_assoc, append-nil, at_drop_all, at_drop_more}
use Rattle.std.proofs.lemmas.List.Elements.{All-filter, filter_passes}
use Rattle.std.proofs.lemmas.List.Sums.{AllPass-from_list_all}
use Rattle.std.proofs.lemmas.Bool.{and_parts, cases_Bool, eqb-true, leb-false, lt-leb, ltb-true}
use Rattle.std.specs.List.{flat_map}
use Rattle.texts.specs.Tokens.{bytes_of, child_above, every_child_above, flat, flattened, item_text, items_of, lhs, rhs}
use Rattle.texts.specs.Flats.{ShortText}
use Rattle.texts.specs.declared.token_tree.Delimiter.{Delimiter}
use Rattle.texts.specs.declared.token_tree.Item.{Item}
use Rattle.texts.specs.declared.token_tree.Text.{Text}
use Rattle.texts.specs.declared.token_tree.Text.TheVariants.{Chars, Group}

-- two ways to show the lists give an item the same text, if they agree on the lists above
same_item : (f g : ℕ → List ℕ) (list : ℕ) (t : Text) → child_above list t ≡ true → ((child : ℕ) → list < child → child < 256 → f child ≡ g child) → item_text f t ≡ item_text g t
same_item f g list (Chars s) a h = refl
same_item f g list (Group d child) a h =
    let p = and_parts (ltb list child) (ltb child 256) a in
    ap (λ (xs : List ℕ). lhs d ++ (xs ++ rhs d)) (h child (ltb-true list child p.0) (ltb-true child 256 p.1))

same_items : (f g : ℕ → List ℕ) (list : ℕ) (items : List Item) → every_child_above items ≡ true → ((child : ℕ) → list < child → child < 256 → f child ≡ g child)
    → flat_map (λ i. item_text f i.text) (items_of list items) ≡ flat_map (λ i. item_text g i.text) (items_of list items)
same_items f g list [] a h = refl
same_items f g list (x ∷ xs) a h =
    let p = and_parts (child_above x.list x.text) (every_child_above xs) a in
    let rest = same_items f g list xs p.1 h in
    ⊎_elim
    (λ (e : eqb x.list list ≡ true).
    let here : item_text f x.text ≡ item_text g x.text =
    same_item f g list x.text (ap (λ (n : ℕ). child_above n x.text) (sym (eqb-true x.list list e)) ∙ p.0) h in
    ap (λ (b : Bool). flat_map (λ i. item_text f i.text) (cond b (x ∷ items_of list xs) (items_of list xs))) e
    ∙ ap (λ (ys : List ℕ). ys ++ flat_map (λ i. item_text f i.text) (items_of list xs)) here
    ∙ ap (λ (ys : List ℕ). item_text g x.text ++ ys) rest
    ∙ ap (λ (b : Bool). flat_map (λ i. item_text g i.text) (cond b (x ∷ items_of list xs) (items_of list xs))) (sym e))
    (λ (e : eqb x.list list ≡ false).
    ap (λ (b : Bool). flat_map (λ i. item_text f i.text) (cond b (x ∷ items_of list xs) (items_of list xs))) e
    ∙ rest
    ∙ ap (λ (b : Bool). flat_map (λ i. item_text g i.text) (cond b (x ∷ items_of list xs) (items_of list xs))) (sym e))
    (cases_Bool (eqb x.list list))

-- deeper than the lists above there is nothing
deep_enough : (items : List Item) → every_child_above items ≡ true → (m n list : ℕ) → list < 256 → 256 ≤ m + list → 256 ≤ n + list → flat m items list ≡ flat n items list
unfolding flat
deep_enough items a zero n list l hm hn = absurd (omega arith)
deep_enough items a (suc m) zero list l hm hn = absurd (omega arith)
deep_enough items a (suc m) (suc n) list l hm hn =
    same_items (flat m items) (flat n items) list items a
    (λ child above below. deep_enough items a m n child below (omega arith) (omega arith))

-- the text of a list is that of its items, one after the other
pub flattened_is : (items : List Item) (list : ℕ) → every_child_above items ≡ true → list < 256
    → flattened items list ≡ flat_map (λ i. item_text (flattened items) i.text) (items_of list items)
unfolding flat flattened
flattened_is items list a l =
    same_items (flat 255 items) (flat 256 items) list items a
    (λ child above below. deep_enough items a 255 256 child below (omega arith) (omega arith))

-- what is left to add, after some of it was added
pub moved_on : (out next more rest whole : List ℕ) → out ++ (more ++ rest) ≡ whole → next ≡ out ++ more → next ++ rest ≡ whole
moved_on out next more rest whole h e = ap (λ (xs : List ℕ). xs ++ rest) e ∙ append_assoc out more rest ∙ h

-- where that has no room, neither has the whole
pub too_long : (out more rest a b : List ℕ) → out ++ (more ++ rest) ≡ a ++ b → leb (length out + length more) 1024 ≡ false → leb (length a + length b) 1024 ≡ false
too_long out more rest a b h e =
    lt-leb (length a + length b) 1024
    (omega (arith, leb-false (length out + length more) 1024 e, ap length h, length-append out (more ++ rest), length-append more rest, length-append a b))

-- the text of an item, where the lists are given
abbrev pub text_of : List Item → Item → List ℕ
text_of items item = item_text (flattened items) item.text

-- one item of what is left
next_item : (f : Item → List ℕ) (slice run : List Item) (i : ℕ) (x : Item) (out whole : List ℕ) → slice ≡ run → i < length slice → x ≡ get_or slice i x
    → out ++ flat_map f (drop i run) ≡ whole → out ++ (f x ++ flat_map f (drop (i + 1) run)) ≡ whole
next_item f slice run i x out whole e l is h =
    ap (λ (y : Item). out ++ (f y ++ flat_map f (drop (i + 1) run))) (is ∙ ap (λ (xs : List Item). get_or xs i x) e)
    ∙ ap (λ (xs : List ℕ). out ++ xs) (sym (at_drop_more (flat_map f) run i x (omega (arith, ap length e))))
    ∙ h

-- a text, and a group, as what is added next
pub text_next : (items slice run : List Item) (i : ℕ) (x : Item) (s : ShortText) (out added whole : List ℕ)
    → slice ≡ run → i < length slice → x ≡ get_or slice i x → x.text ≡ Chars s → added ≡ bytes_of s
    → out ++ flat_map (text_of items) (drop i run) ≡ whole → out ++ (added ++ flat_map (text_of items) (drop (i + 1) run)) ≡ whole
text_next items slice run i x s out added whole same l at is e h =
    ap (λ (xs : List ℕ). out ++ (xs ++ flat_map (text_of items) (drop (i + 1) run))) (e ∙ sym (ap (item_text (flattened items)) is))
    ∙ next_item (text_of items) slice run i x out whole same l at h

pub group_next : (items slice run : List Item) (i : ℕ) (x : Item) (d : Delimiter) (child : ℕ) (out before whole : List ℕ)
    → slice ≡ run → i < length slice → x ≡ get_or slice i x → x.text ≡ Group d child → before ≡ lhs d
    → out ++ flat_map (text_of items) (drop i run) ≡ whole
    → out ++ (before ++ (flattened items child ++ (rhs d ++ flat_map (text_of items) (drop (i + 1) run)))) ≡ whole
group_next items slice run i x d child out before whole same l at is b h =
    let list : List ℕ = flattened items child in
    let rest : List ℕ = flat_map (text_of items) (drop (i + 1) run) in
    ap (λ (xs : List ℕ). out ++ xs)
    (ap (λ (xs : List ℕ). xs ++ (list ++ (rhs d ++ rest))) b
    ∙ sym (append_assoc (lhs d) (list ++ rhs d) rest ∙ ap (λ (xs : List ℕ). lhs d ++ xs) (append_assoc list (rhs d) rest))
    ∙ ap (λ (t : Text). item_text (flattened items) t ++ rest) (sym is))
    ∙ next_item (text_of items) slice run i x out whole same l at h

-- where nothing is left, the whole was added
pub all_added : (f : Item → List ℕ) (slice run : List Item) (i : ℕ) (out whole : List ℕ) → slice ≡ run → length slice ≤ i → out ++ flat_map f (drop i run) ≡ whole → out ≡ whole
all_added f slice run i out whole e l h =
    sym (append-nil out) ∙ ap (λ (xs : List ℕ). out ++ xs) (sym (at_drop_all (flat_map f) run i (omega (arith, ap length e)))) ∙ h

-- a child's number is greater than its list's, and below 256
pub child_falls : (items : List Item) (slice : List Item) (list i : ℕ) (x : Item) (d : Delimiter) (child : ℕ) → every_child_above items ≡ true
    → slice ≡ items_of list items → i < length slice → x ≡ get_or slice i x → x.text ≡ Group d child → (list < child) × (child < 256)
child_falls items slice list i x d child a e l is g =
    let above : Item → Bool = λ y. child_above y.list y.text in
    let run : List Item = items_of list items in
    let in' : i < length run = omega (arith, ap length e) in
    let here : x ≡ get_or run i x = is ∙ ap (λ (xs : List Item). get_or xs i x) e in
    let own : eqb x.list list ≡ true = ap (λ (y : Item). eqb y.list list) here ∙ filter_passes (λ (y : Item). eqb y.list list) items i x in' in
    let fits : above x ≡ true = ap above here ∙ All-filter (λ (y : Item). eqb y.list list) (λ (y : Item). above y ≡ true) items (AllPass-from_list_all above items a) i x in' in
    let q = and_parts (ltb list child) (ltb child 256) (ap (child_above list) (sym g) ∙ ap (λ (n : ℕ). child_above n x.text) (sym (eqb-true x.list list own)) ∙ fits) in
    (ltb-true list child q.0, ltb-true child 256 q.1)
