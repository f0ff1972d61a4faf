-- Names that are known, and names that come.
use Rattle.std.proofs.Common.{◌≡◌, ℕ, suc, ◌+◌, ◌<◌, ◌≤◌, Bool, true, false, cond, not, ◌&&◌, ◌||◌, leb, List, [], ◌∷◌, ◌++◌, length, is_some, Some, None, Option, Ordering, Less, Equal, Greater, sym, refl, ap, ◌∙◌, ⊎_elim, arith}
use Rattle.std.proofs.lemmas.List.{length_push}
use Rattle.std.proofs.lemmas.Bool.{and_from, and_parts, cases_Bool, cond-false, false≢true, le-leb, leb-true, or_right}
use Rattle.std.specs.Option.{option_map}
use Rattle.std.specs.Ordering.{is_eq}
use Rattle.pool.specs.Firsts.{known, number_in, with_key}
use Rattle.pool.specs.Words.{by_word}
use Rattle.pool.specs.WordOrder.{word_orders}
use Rattle.names.specs.Names.{total}
use Rattle.names.specs.declared.numbers.PName.{PName}
use Rattle.components.specs.declared.component.ComponentType.{ComponentType}
use Rattle.components.specs.declared.component.ComponentType.TheVariants.{Literal, Variable, Filler}
use Rattle.components.specs.declared.ranges.Usb.{Usb}
use Rattle.layout.specs.Mapping.{bound_text, map_bound, map_type, type_text}
use Rattle.layout.specs.Naming.{bytes_in, kept_if, name_of, names_fit, names_in, new_text, number_or_0, same_texts, with_text}

-- a key has a number exactly if it is known
pub number_known : (names : List (List ℕ)) (text : List ℕ) → is_some (number_in by_word names text) ≡ known by_word names text
number_known [] text = refl
number_known (x ∷ xs) text =
    ⊎_elim
    (λ (e : is_eq (by_word x text) ≡ true).
    ap (λ (b : Bool). is_some (cond b (Some 0) (option_map suc (number_in by_word xs text)))) e
    ∙ ap (λ (b : Bool). b || known by_word xs text) (sym e))
    (λ (e : is_eq (by_word x text) ≡ false).
    ap (λ (b : Bool). is_some (cond b (Some 0) (option_map suc (number_in by_word xs text)))) e
    ∙ some_mapped (number_in by_word xs text) ∙ number_known xs text
    ∙ ap (λ (b : Bool). b || known by_word xs text) (sym e))
    (cases_Bool (is_eq (by_word x text)))
  where
    some_mapped : (o : Option ℕ) → is_some (option_map suc o) ≡ is_some o
    some_mapped None = refl
    some_mapped (Some n) = refl

-- one name more at the end
known_push : (names : List (List ℕ)) (a text : List ℕ) → known by_word (names ++ a ∷ []) text ≡ (known by_word names text || is_eq (by_word a text))
known_push [] a text = or-false (is_eq (by_word a text))
  where
    or-false : (b : Bool) → (b || false) ≡ b
    or-false true = refl
    or-false false = refl
known_push (x ∷ xs) a text =
    ap (λ (b : Bool). is_eq (by_word x text) || b) (known_push xs a text)
    ∙ regrouped (is_eq (by_word x text)) (known by_word xs text) (is_eq (by_word a text))
  where
    regrouped : (a b c : Bool) → (a || (b || c)) ≡ ((a || b) || c)
    regrouped true b c = refl
    regrouped false b c = refl

total_push : (names : List (List ℕ)) (a : List ℕ) → total (names ++ a ∷ []) ≡ total names + length a
total_push [] a = omega arith
total_push (x ∷ xs) a = omega (arith, total_push xs a)

same_equal : (o : Ordering) → is_eq o ≡ true → o ≡ Equal
same_equal Less h = absurd (false≢true h)
same_equal Equal h = refl
same_equal Greater h = absurd (false≢true h)

-- equal texts are known together
known_same : (names : List (List ℕ)) (a text : List ℕ) → is_eq (by_word a text) ≡ true → known by_word names text ≡ known by_word names a
known_same names a text e = ap (known by_word names) (sym (word_orders.same a text (same_equal (by_word a text) e)))

-- what is known once a text was added: what was known, and that text
pub known_with : (names : List (List ℕ)) (a text : List ℕ) → known by_word (with_key by_word names a) text ≡ (known by_word names text || is_eq (by_word a text))
known_with names a text =
    ⊎_elim
    (λ (e : known by_word names a ≡ true).
    ap (λ (b : Bool). known by_word (cond b names (names ++ a ∷ [])) text) e
    ∙ sym (absorbed (known by_word names text) (is_eq (by_word a text)) (λ s. known_same names a text s ∙ e)))
    (λ (e : known by_word names a ≡ false).
    ap (λ (b : Bool). known by_word (cond b names (names ++ a ∷ [])) text) e ∙ known_push names a text)
    (cases_Bool (known by_word names a))
  where
    absorbed : (a b : Bool) → (b ≡ true → a ≡ true) → (a || b) ≡ a
    absorbed true b h = refl
    absorbed false true h = sym (h refl)
    absorbed false false h = refl

-- how many names and bytes there are once a text was added
pub length_with : (names : List (List ℕ)) (o : Option (List ℕ)) → length (with_text names o) ≡ length names + cond (new_text names o) 1 0
length_with names None = omega arith
length_with names (Some a) =
    ⊎_elim
    (λ (e : known by_word names a ≡ true). rw (e) (omega arith))
    (λ (e : known by_word names a ≡ false). rw (e) (length_push names a))
    (cases_Bool (known by_word names a))

pub total_with : (names : List (List ℕ)) (o : Option (List ℕ)) → total (with_text names o) ≡ total names + cond (new_text names o) (bytes_in o) 0
total_with names None = omega arith
total_with names (Some a) =
    ⊎_elim
    (λ (e : known by_word names a ≡ true). rw (e) (omega arith))
    (λ (e : known by_word names a ≡ false). rw (e) (total_push names a))
    (cases_Bool (known by_word names a))

-- what is new once a text was added: what was new, but for that text
pub new_with : (names : List (List ℕ)) (a o : Option (List ℕ)) → new_text (with_text names a) o ≡ (new_text names o && not (same_texts a o))
new_with names None None = refl
new_with names None (Some text) = and_true (not (known by_word names text))
  where
    and_true : (b : Bool) → b ≡ (b && true)
    and_true true = refl
    and_true false = refl
new_with names (Some a) None = refl
new_with names (Some a) (Some text) =
    ap not (known_with names a text) ∙ neither (known by_word names text) (is_eq (by_word a text))
  where
    neither : (a b : Bool) → not (a || b) ≡ (not a && not b)
    neither true b = refl
    neither false b = refl

-- where there is room with an unknown text, there is room for it
pub room_for : (names : List (List ℕ)) (text : List ℕ) → names_fit (with_key by_word names text) ≡ true → known by_word names text ≡ false
    → (length names < 256) × (total names + length text ≤ 16384)
room_for names text h e =
    let is : with_key by_word names text ≡ names ++ text ∷ [] = cond-false (known by_word names text) names (names ++ text ∷ []) e in
    let p = and_parts (leb (length (with_key by_word names text)) 256) (leb (total (with_key by_word names text)) 16384) h in (
      omega (arith, leb-true (length (with_key by_word names text)) 256 p.0, ap length is, length_push names text),
      omega (arith, leb-true (total (with_key by_word names text)) 16384 p.1, ap total is, total_push names text),
    )

-- where there is room with a text more, there is room without it
pub fits_before : (names : List (List ℕ)) (o : Option (List ℕ)) → names_fit (with_text names o) ≡ true → names_fit names ≡ true
fits_before names o h =
    let p = and_parts (leb (length (with_text names o)) 256) (leb (total (with_text names o)) 16384) h in
    and_from (leb (length names) 256) (leb (total names) 16384)
    (le-leb (length names) 256 (omega (arith, leb-true (length (with_text names o)) 256 p.0, length_with names o)))
    (le-leb (total names) 16384 (omega (arith, leb-true (total (with_text names o)) 16384 p.1, total_with names o)))

-- what a look-up tells of a text
pub new_is : {T : Type 0} (f : T → ℕ) (o : Option T) (names : List (List ℕ)) (slice text : List ℕ) (r : Bool)
    → is_some o ≡ not r → option_map f o ≡ number_in by_word names slice → slice ≡ text → r ≡ not (known by_word names text)
new_is {T} f o names slice text r a b e =
    sym (not_not r) ∙ ap not (sym a ∙ some_mapped o ∙ ap is_some b ∙ number_known names slice ∙ ap (known by_word names) e)
  where
    not_not : (b : Bool) → not (not b) ≡ b
    not_not true = refl
    not_not false = refl

    some_mapped : (o : Option T) → is_some o ≡ is_some (option_map f o)
    some_mapped None = refl
    some_mapped (Some n) = refl

-- a known text keeps its number
number_push : (names : List (List ℕ)) (a text : List ℕ) → known by_word names text ≡ true → number_in by_word (names ++ a ∷ []) text ≡ number_in by_word names text
number_push [] a text h = absurd (false≢true h)
number_push (x ∷ xs) a text h =
    ⊎_elim
    (λ (e : is_eq (by_word x text) ≡ true). rw (e) refl)
    (λ (e : is_eq (by_word x text) ≡ false).
    ap (λ (b : Bool). cond b (Some 0) (option_map suc (number_in by_word (xs ++ a ∷ []) text))) e
    ∙ ap (option_map suc) (number_push xs a text (ap (λ (b : Bool). b || known by_word xs text) (sym e) ∙ h))
    ∙ ap (λ (b : Bool). cond b (Some 0) (option_map suc (number_in by_word xs text))) (sym e))
    (cases_Bool (is_eq (by_word x text)))

name_stays : (names : List (List ℕ)) (o : Option (List ℕ)) (text : List ℕ) → known by_word names text ≡ true → name_of names text ≡ name_of (with_text names o) text
name_stays names None text h = refl
name_stays names (Some a) text h =
    ⊎_elim
    (λ (e : known by_word names a ≡ true). rw (e) refl)
    (λ (e : known by_word names a ≡ false).
    ap (λ (n : Option ℕ). name_at n) (sym (number_push names a text h))
    ∙ ap (λ (b : Bool). name_of (cond b names (names ++ a ∷ [])) text) (sym e))
    (cases_Bool (known by_word names a))
  where
    name_at : Option ℕ → PName
    name_at n = record { 0 = number_or_0 n }

known_stays : (names : List (List ℕ)) (o : Option (List ℕ)) (text : List ℕ) → known by_word names text ≡ true → known by_word (with_text names o) text ≡ true
known_stays names None text h = h
known_stays names (Some a) text h = known_with names a text ∙ ap (λ (b : Bool). b || is_eq (by_word a text)) h

known_itself : (names : List (List ℕ)) (text : List ℕ) → known by_word (with_key by_word names text) text ≡ true
known_itself names text =
    known_with names text text ∙ or_right (known by_word names text) (is_eq (by_word text text)) (ap is_eq (word_orders.itself text))

-- the number of a variable or of a bound stays, whatever comes after
pub type_stays : (names : List (List ℕ)) (t : ComponentType (List ℕ)) (a b : Option (List ℕ))
    → map_type (name_of (with_text names (type_text t))) t ≡ map_type (name_of (with_text (with_text (with_text names (type_text t)) a) b)) t
type_stays names (Literal width value) a b = refl
type_stays names (Variable text) a b =
    ap Variable
    (name_stays (with_key by_word names text) a text (known_itself names text)
    ∙ name_stays (with_text (with_key by_word names text) a) b text (known_stays (with_key by_word names text) a text (known_itself names text)))
type_stays names Filler a b = refl

pub bound_stays : (names : List (List ℕ)) (o : Option (Usb (List ℕ))) (a : Option (List ℕ))
    → option_map (map_bound (name_of (with_text names (bound_text o)))) o ≡ option_map (map_bound (name_of (with_text (with_text names (bound_text o)) a))) o
bound_stays names None a = refl
bound_stays names (Some b) a = ap (λ (s : Option PName). Some (record { s = s; x = b.x })) (text_stays names b.s a)
  where
    text_stays : (names : List (List ℕ)) (s a : Option (List ℕ)) → option_map (name_of (with_text names s)) s ≡ option_map (name_of (with_text (with_text names s) a)) s
    text_stays names None a = refl
    text_stays names (Some text) a = ap Some (name_stays (with_key by_word names text) a text (known_itself names text))

-- the texts of a component, before and after they are read
pub type_text_mapped : {A B : Type 0} (f : A → B) (t : ComponentType A) → type_text (map_type f t) ≡ option_map f (type_text t)
type_text_mapped f (Literal width value) = refl
type_text_mapped f (Variable text) = refl
type_text_mapped f Filler = refl

pub bound_text_mapped : {A B : Type 0} (f : A → B) (o : Option (Usb A)) → bound_text (option_map (map_bound f) o) ≡ option_map f (bound_text o)
bound_text_mapped f None = refl
bound_text_mapped f (Some b) = refl

-- what three texts in turn bring, counted one by one
pub counted_by : (names : List (List ℕ)) (a b c : Option (List ℕ)) (n m : ℕ)
    → n ≡ length names + cond (new_text names a) 1 0 + cond (new_text names b && not (same_texts a b)) 1 0
    + cond ((new_text names c && not (same_texts a c)) && not (same_texts b c)) 1 0
    → m ≡ total names + cond (new_text names a) (bytes_in a) 0 + cond (new_text names b && not (same_texts a b)) (bytes_in b) 0
    + cond ((new_text names c && not (same_texts a c)) && not (same_texts b c)) (bytes_in c) 0
    → (leb n 256 && leb m 16384) ≡ names_fit (with_text (with_text (with_text names a) b) c)
counted_by names a b c n m hn hm =
    let second : new_text (with_text names a) b ≡ (new_text names b && not (same_texts a b)) = new_with names a b in
    let third : new_text (with_text (with_text names a) b) c ≡ ((new_text names c && not (same_texts a c)) && not (same_texts b c)) =
    new_with (with_text names a) b c ∙ ap (λ (x : Bool). x && not (same_texts b c)) (new_with names a c) in
    let long : n ≡ length (with_text (with_text (with_text names a) b) c) =
    omega (
      arith,
      hn,
      length_with names a,
      length_with (with_text names a) b,
      length_with (with_text (with_text names a) b) c,
      ap {B = ℕ} (λ (x : Bool). cond x 1 0) second,
      ap {B = ℕ} (λ (x : Bool). cond x 1 0) third,
    ) in
    let big : m ≡ total (with_text (with_text (with_text names a) b) c) =
    omega (
      arith,
      hm,
      total_with names a,
      total_with (with_text names a) b,
      total_with (with_text (with_text names a) b) c,
      ap (λ (x : Bool). cond x (bytes_in b) 0) second,
      ap (λ (x : Bool). cond x (bytes_in c) 0) third,
    ) in
    ap (λ (x : ℕ). leb x 256 && leb m 16384) long ∙ ap (λ (x : ℕ). leb (length (with_text (with_text (with_text names a) b) c)) 256 && leb x 16384) big

-- what is kept of a text that is kept for one reason is kept for both
kept_new : (names : List (List ℕ)) (a o : Option (List ℕ)) (keep : Bool)
    → kept_if (not (same_texts a (kept_if keep o))) (kept_if keep o) ≡ kept_if (keep && not (same_texts a o)) o
kept_new names a None keep = refl
kept_new names a (Some text) true = refl
kept_new names a (Some text) false = refl

-- how many names and bytes it has
kept_names : (o : Option (List ℕ)) (keep : Bool) → (o ≡ None → keep ≡ false) → names_in (kept_if keep o) ≡ cond keep 1 0
kept_names None keep h = sym (ap {B = ℕ} (λ (b : Bool). cond b 1 0) (h refl))
kept_names (Some text) true h = refl
kept_names (Some text) false h = refl

kept_bytes : (o : Option (List ℕ)) (keep : Bool) → bytes_in (kept_if keep o) ≡ cond keep (bytes_in o) 0
kept_bytes None true = refl
kept_bytes None false = refl
kept_bytes (Some text) true = refl
kept_bytes (Some text) false = refl

-- the new ones of three texts in turn, counted one by one
pub counted : (names : List (List ℕ)) (a b c : Option (List ℕ)) (n m : ℕ) (p q r s t u : Option (List ℕ))
    → p ≡ kept_if (new_text names a) a
    → q ≡ kept_if (new_text names b) b → r ≡ kept_if (not (same_texts a q)) q
    → s ≡ kept_if (new_text names c) c → t ≡ kept_if (not (same_texts a s)) s → u ≡ kept_if (not (same_texts b t)) t
    → n ≡ length names + names_in p + names_in r + names_in u
    → m ≡ total names + bytes_in p + bytes_in r + bytes_in u
    → (leb n 256 && leb m 16384) ≡ names_fit (with_text (with_text (with_text names a) b) c)
counted names a b c n m p q r s t u pe qe re se te ue hn hm =
    let two : r ≡ kept_if (new_text names b && not (same_texts a b)) b =
    re ∙ ap (λ (o : Option (List ℕ)). kept_if (not (same_texts a o)) o) qe ∙ kept_new names a b (new_text names b) in
    let before : t ≡ kept_if (new_text names c && not (same_texts a c)) c =
    te ∙ ap (λ (o : Option (List ℕ)). kept_if (not (same_texts a o)) o) se ∙ kept_new names a c (new_text names c) in
    let three : u ≡ kept_if ((new_text names c && not (same_texts a c)) && not (same_texts b c)) c =
    ue ∙ ap (λ (o : Option (List ℕ)). kept_if (not (same_texts b o)) o) before ∙ kept_new names b c (new_text names c && not (same_texts a c)) in
    counted_by names a b c n m
    (omega (
      arith,
      hn,
      ap names_in pe ∙ kept_names a (new_text names a) (λ e. ap (new_text names) e),
      ap names_in two ∙ kept_names b (new_text names b && not (same_texts a b)) (λ e. ap (λ (o : Option (List ℕ)). new_text names o && not (same_texts a o)) e),
      ap names_in three
          ∙ kept_names c ((new_text names c && not (same_texts a c)) && not (same_texts b c)) (λ e. ap (λ (o : Option (List ℕ)). (new_text names o && not (same_texts a o)) && not (same_texts b o)) e),
    ))
    (omega (
      arith,
      hm,
      ap bytes_in pe ∙ kept_bytes a (new_text names a),
      ap bytes_in two ∙ kept_bytes b (new_text names b && not (same_texts a b)),
      ap bytes_in three ∙ kept_bytes c ((new_text names c && not (same_texts a c)) && not (same_texts b c)),
    ))
