-- Names as texts of lists.
use Rattle.std.proofs.Common.{◌≡◌, ℕ, zero, suc, ◌<◌, true, false, not, ◌&&◌, leb, List, [], ◌∷◌, ◌++◌, length, get_or, Some, None, Option, Equal, sym, refl, ap, ◌∙◌, subst, ⊎_elim, arith}
use Rattle.std.proofs.ByRecursion.{All-push}
use Rattle.std.proofs.lemmas.List.{get_or_append_left, get_or_push, length_push}
use Rattle.std.proofs.lemmas.Bool.{and_parts, both_ways, cases_Bool, cases_eq, leb-true, or_left, or_right}
use Rattle.std.specs.Option.{option_map}
use Rattle.std.specs.Ordering.{is_eq}
use Rattle.std.specs.List.{AllByRecursion}
use Rattle.pool.specs.Firsts.{Once, known, with_key}
use Rattle.pool.specs.Words.{by_word}
use Rattle.pool.proofs.Firsts.{with_known, with_unknown}
use Rattle.pool.specs.WordOrder.{word_orders}
use Rattle.components.specs.declared.component.Component.{Component}
use Rattle.texts.specs.Tokens.{flattened}
use Rattle.texts.specs.declared.token_tree.Item.{Item}
use Rattle.layout.specs.Layouts.{Described, spelled, with_names}
use Rattle.layout.specs.Mapping.{bound_text, type_text}
use Rattle.layout.specs.Naming.{with_text}
use Rattle.layout.specs.Reading.{bound_reads, component_reads, reads, reserved, variable_reads}
use Rattle.layout.specs.declared.handed_names.FnNames.{FnNames}
use Rattle.layout.proofs.NewNames.{bound_text_mapped, type_text_mapped}
use Rattle.layout_laws.specs.NamesOfLists.{NamesNeverRunOut, NamesOfLists, NamesStayTexts, TextOfAList}
use Rattle.layout_laws.proofs.Pigeonhole.{few}

-- the list whose text name i is
list_of : (lists : List Item) (names : List (List ℕ)) → AllByRecursion (TextOfAList lists) names → ℕ → ℕ
list_of lists [] t i = 0
list_of lists (x ∷ xs) t zero = t.0.0
list_of lists (x ∷ xs) t (suc i) = list_of lists xs t.1 i

list_is : (lists : List Item) (names : List (List ℕ)) (t : AllByRecursion (TextOfAList lists) names) (i : ℕ) → i < length names
    → (list_of lists names t i < 256) × (flattened lists (list_of lists names t i) ≡ get_or names i [])
unfolding list_of
list_is lists [] t i h = absurd (omega arith)
list_is lists (x ∷ xs) t zero h = (t.0.1, t.0.2)
list_is lists (x ∷ xs) t (suc i) h = list_is lists xs t.1 i (omega arith)

-- two names of one list would be one name twice
pub names_never_run_out : NamesNeverRunOut
names_never_run_out lists names n =
    few 256 (length names) (list_of lists names n.texts) (λ i h. (list_is lists names n.texts i h).0)
    (λ i j l h e.
    n.once i j [] l h
    (ap (by_word (get_or names i []))
    (sym (list_is lists names n.texts j h).1 ∙ ap (flattened lists) (sym e) ∙ (list_is lists names n.texts i (omega arith)).1)
    ∙ word_orders.itself (get_or names i [])))

-- a text that stands among the names is known
known_at : (names : List (List ℕ)) (text d : List ℕ) (i : ℕ) → i < length names → by_word (get_or names i d) text ≡ Equal → known by_word names text ≡ true
known_at [] text d i h e = absurd (omega arith)
known_at (x ∷ xs) text d zero h e = or_left (is_eq (by_word x text)) (known by_word xs text) (ap is_eq e)
known_at (x ∷ xs) text d (suc i) h e = or_right (is_eq (by_word x text)) (known by_word xs text) (known_at xs text d i (omega arith) e)

-- an unknown text at the end stands there once
once_push : (names : List (List ℕ)) (text : List ℕ) → Once by_word names → known by_word names text ≡ false → Once by_word (names ++ text ∷ [])
once_push names text once new i j d l h e =
    let long = length_push names text in
    let first : get_or (names ++ text ∷ []) i d ≡ get_or names i d = get_or_append_left names (text ∷ []) d i (omega (arith, long)) in
    ⊎_elim
    (λ (s : j ≡ length names).
    both_ways (known by_word names text) new
    (known_at names text d i (omega arith)
    (sym (ap (λ a. by_word a text) first) ∙ sym (ap (by_word (get_or (names ++ text ∷ []) i d)) (get_or_push names text d j (sym s))) ∙ e)))
    (λ (o : j ≡ length names → ⊥).
    let m : j < length names = omega (arith, long) in
    once i j d l m
    (sym (ap (λ a. by_word a (get_or names j d)) first) ∙ sym (ap (by_word (get_or (names ++ text ∷ []) i d)) (get_or_append_left names (text ∷ []) d j m)) ∙ e))
    (cases_eq j (length names))

module _ (lists : List Item) where
  -- the text of one of the lists more
  with_list : (names : List (List ℕ)) (list : ℕ) → list < 256 → NamesOfLists lists names → NamesOfLists lists (with_key by_word names (flattened lists list))
  with_list names list h n =
      ⊎_elim
      (λ (e : known by_word names (flattened lists list) ≡ true).
      subst (NamesOfLists lists) (sym (with_known by_word names (flattened lists list) e)) n)
      (λ (e : known by_word names (flattened lists list) ≡ false).
      subst (NamesOfLists lists) (sym (with_unknown by_word names (flattened lists list) e))
      (record {
        texts = All-push (TextOfAList lists) names (flattened lists list) n.texts (list, h, refl);
        once = once_push names (flattened lists list) n.once e;
      }))
      (cases_Bool (known by_word names (flattened lists list)))

  with_read : (names : List (List ℕ)) (o : Option ℕ) (text : Option (List ℕ)) → text ≡ option_map (flattened lists) o → variable_reads lists o ≡ true
      → NamesOfLists lists names → NamesOfLists lists (with_text names text)
  with_read names None text e h n = subst (λ t. NamesOfLists lists (with_text names t)) (sym e) n
  with_read names (Some list) text e h n =
      subst (λ t. NamesOfLists lists (with_text names t)) (sym e) (with_list names list (below list h) n)
    where
      below : (list : ℕ) → reads lists list ≡ true → list < 256
      below list h =
          let p = (and_parts (leb list 255 && leb 1 (length (flattened lists list))) (leb (length (flattened lists list)) 1024) h).0 in
          let q = (and_parts (leb list 255) (leb 1 (length (flattened lists list))) p).0 in
          omega (arith, leb-true list 255 q)

  -- a bound reads what a variable may
  bound_variable : (f : FnNames) (o : Option ℕ) → bound_reads f lists o ≡ true → variable_reads lists o ≡ true
  bound_variable f None h = refl
  bound_variable f (Some list) h = (and_parts (reads lists list) (not (reserved f (flattened lists list))) h).0

with_component : (f : FnNames) (d : Described) (c : Component ℕ) → NamesOfLists d.lists d.names → component_reads f d.lists c ≡ true → NamesOfLists d.lists (with_names d c)
with_component f d c n h =
    let lists : List Item = d.lists in
    let variable : Option ℕ = type_text c.c_type in
    let start : Option ℕ = bound_text c.range.start in
    let end : Option ℕ = bound_text c.range.end in
    let p = and_parts (variable_reads lists variable && bound_reads f lists start) (bound_reads f lists end) h in
    let q = and_parts (variable_reads lists variable) (bound_reads f lists start) p.0 in
    with_read lists (with_text (with_text d.names (type_text (spelled d c).c_type)) (bound_text (spelled d c).range.start)) end
    (bound_text (spelled d c).range.end) (bound_text_mapped (flattened lists) c.range.end) (bound_variable lists f end p.1)
    (with_read lists (with_text d.names (type_text (spelled d c).c_type)) start
    (bound_text (spelled d c).range.start) (bound_text_mapped (flattened lists) c.range.start) (bound_variable lists f start q.1)
    (with_read lists d.names variable (type_text (spelled d c).c_type) (type_text_mapped (flattened lists) c.c_type) q.0 n))

pub names_stay_texts : NamesStayTexts
names_stay_texts = (λ lists. record { texts = tt; once = λ i j e l h. absurd (omega arith) }, with_component)
