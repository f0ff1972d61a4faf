-- Variables laid end to end: their places are lawful and apart, and a write to a part of one shows in that part alone.
use Rattle.std.specs.Prelude.{◌≡◌, ℕ, zero, suc, ◌+◌, ◌-◌, ◌<◌, ◌≤◌, min, Bool, true, false, cond, ◌&&◌, ◌⊎◌, List, [], ◌∷◌, length, take, drop, is_some, is_ok, Some, None, Ok, Err, Option, Result, ◌==◌, ◌≢◌, nat_le, nat_lt, slice_index, refl}
use Rattle.std.proofs.Common.{sym, ap, ap₂, ◌∙◌, inl, inr, ⊎_elim, le_of_suc-le-suc, arith, length-take}
use Rattle.std.proofs.lemmas.List.{drop_more, drop_all, get_or_past}
use Rattle.std.proofs.lemmas.Bool.{and_from, and_parts, cases_Bool, cases_eq, cases_lt, cond-true, cond-false, eq-eqb, ne_eqb, leb-true, le-leb, lt-ltb}
use Rattle.std.proofs.lemmas.Bool.Decides.{nat_tests}
use Rattle.bits.specs.Bit.{bit, within}
use Rattle.host.specs.Hosts.{NoSharedPlace}
use Rattle.host.specs.Parts.{inside, part_refusal, refused_part, size}
use Rattle.host.specs.Refusals.{refusal}
use Rattle.host.specs.declared.reasons.Refusal.{Refusal}
use Rattle.host.specs.Spans.{clipped, fits, placed, laid, span_at, lies, seen, width_of, start_of, width_at, shown, sound, before, AllSound, InOrder}
use Rattle.host.specs.declared.spans.Span.{Span}

-- what laying takes from the list: a place for its head, the rest from there on
pub laid_head : (room at : ℕ) (ws : List ℕ) (i : ℕ) → span_at (laid room at (drop i ws)) 0 ≡ placed room at (slice_index ws i)
laid_head room at ws i =
    ⊎_elim
    (λ (h : i < length ws). rw (drop_more ws i 0 h))
    (λ (h : length ws ≤ i). rw (drop_all i ws h, get_or_past ws i 0 h))
    (cases_lt i (length ws))

pub laid_rest : (room at : ℕ) (ws : List ℕ) (i k : ℕ)
    → span_at (laid room (at + cond (fits room at (slice_index ws i)) (slice_index ws i) 0) (drop (i + 1) ws)) k ≡ span_at (laid room at (drop i ws)) (suc k)
laid_rest room at ws i k =
    ⊎_elim
    (λ (h : i < length ws). rw (drop_more ws i 0 h))
    (λ (h : length ws ≤ i). let l : length ws ≤ i + 1 = omega arith in rw (drop_all i ws h, drop_all (i + 1) ws l))
    (cases_lt i (length ws))

-- a place from `at` on
abbrev from : ℕ → Option Span → Bool
from at None = true
from at (Some s) = nat_le at s.start

from_more : (at more : ℕ) (s : Option Span) → at ≤ more → from more s ≡ true → from at s ≡ true
from_more at more None h e = refl
from_more at more (Some s) h e = le-leb at s.start (omega (arith, leb-true more s.start e))

laid_from : (room at : ℕ) (ws : List ℕ) (k : ℕ) → from at (span_at (laid room at ws) k) ≡ true
laid_from room at [] k = refl
laid_from room at (w ∷ ws) zero =
    elim (fits room at w) as (λ t. from at (cond t (Some (record { start = at; width = w })) None) ≡ true)
    [ true ↦ le-leb at at (omega arith) | false ↦ refl ]
laid_from room at (w ∷ ws) (suc k) =
    from_more at (at + cond (fits room at w) w 0) (span_at (laid room (at + cond (fits room at w) w 0) ws) k) (omega arith)
    (laid_from room (at + cond (fits room at w) w 0) ws k)

placed_sound : (room at w : ℕ) → sound (placed room at w) ≡ true
placed_sound room at w = ⊎_elim
    (λ (e : fits room at w ≡ true). ap sound (cond-true (fits room at w) (Some (record { start = at; width = w })) None e)
    ∙ (and_parts (nat_le 1 w && nat_le w 65536) (nat_le (at + w) room) e).0)
    (λ (e : fits room at w ≡ false). ap sound (cond-false (fits room at w) (Some (record { start = at; width = w })) None e))
    (cases_Bool (fits room at w))

pub laid_sound : (room at : ℕ) (ws : List ℕ) → AllSound (laid room at ws)
laid_sound room at [] k = refl
laid_sound room at (w ∷ ws) zero = placed_sound room at w
laid_sound room at (w ∷ ws) (suc k) = laid_sound room (at + cond (fits room at w) w 0) ws k

-- what is placed ends where the rest begins
placed_before : (room at w : ℕ) (t : Option Span) → from (at + cond (fits room at w) w 0) t ≡ true → before (placed room at w) t ≡ true
placed_before room at w None e =
    elim (fits room at w) as (λ t. before (cond t (Some (record { start = at; width = w })) None) None ≡ true) [ true ↦ refl | false ↦ refl ]
placed_before room at w (Some s) e =
    let P : Bool → Type 0 = λ t. from (at + cond t w 0) (Some s) ≡ true → before (cond t (Some (record { start = at; width = w })) None) (Some s) ≡ true in
    (elim (fits room at w) as P [ true ↦ λ h. h | false ↦ λ _. refl ]) e

pub laid_order : (room at : ℕ) (ws : List ℕ) → InOrder (laid room at ws)
laid_order room at [] j k h = refl
laid_order room at (w ∷ ws) zero zero h = absurd (omega arith)
laid_order room at (w ∷ ws) zero (suc k) h =
    placed_before room at w (span_at (laid room (at + cond (fits room at w) w 0) ws) k) (laid_from room (at + cond (fits room at w) w 0) ws k)
laid_order room at (w ∷ ws) (suc j) zero h = absurd (omega arith)
laid_order room at (w ∷ ws) (suc j) (suc k) h = laid_order room (at + cond (fits room at w) w 0) ws j k (le_of_suc-le-suc h)

-- the first n places need the first n widths
pub laid_take : (room at : ℕ) (ws : List ℕ) (n k : ℕ) → k < n → span_at (laid room at (take n ws)) k ≡ span_at (laid room at ws) k
laid_take room at ws zero k h = absurd (omega arith)
laid_take room at [] (suc n) k h = refl
laid_take room at (w ∷ ws) (suc n) zero h = refl
laid_take room at (w ∷ ws) (suc n) (suc k) h = laid_take room (at + cond (fits room at w) w 0) ws n k (le_of_suc-le-suc h)

pub length_laid : (room at : ℕ) (ws : List ℕ) → length (laid room at ws) ≡ length ws
length_laid room at [] = refl
length_laid room at (w ∷ ws) = ap suc (length_laid room (at + cond (fits room at w) w 0) ws)

-- past the widths there is no place
pub laid_past : (room at : ℕ) (ws : List ℕ) (k : ℕ) → length ws ≤ k → span_at (laid room at ws) k ≡ None
laid_past room at ws k h = get_or_past (laid room at ws) k None (omega (arith, length_laid room at ws))

-- two tables with the same places
pub same_sound : (xs ys : List (Option Span)) → ((k : ℕ) → span_at xs k ≡ span_at ys k) → AllSound ys → AllSound xs
same_sound xs ys e h k = ap sound (e k) ∙ h k

pub same_order : (xs ys : List (Option Span)) → ((k : ℕ) → span_at xs k ≡ span_at ys k) → InOrder ys → InOrder xs
same_order xs ys e h j k l = ap₂ before (e j) (e k) ∙ h j k l

-- an accepted part
accepted : (b : Bool) (r : Refusal) → cond b None (Some r) ≡ None → b ≡ true
accepted true r e = refl
accepted false r e = let z : ◌≡◌ {A = ℕ} 0 1 = cc in absurd (omega arith)

pub in_part : (w offset count : ℕ) → inside w offset count ≡ true → (1 ≤ count) × (count ≤ 64) × (offset + count ≤ w)
in_part w offset count t =
    let p = and_parts (nat_le 1 count && nat_le count 64) (nat_le (offset + count) w) t in
    let q = and_parts (nat_le 1 count) (nat_le count 64) p.0 in
    (leb-true 1 count q.0, leb-true count 64 q.1, leb-true (offset + count) w p.1)

pub is_part : (w offset count : ℕ) → 1 ≤ count → count ≤ 64 → offset + count ≤ w → inside w offset count ≡ true
is_part w offset count a b h =
    and_from (nat_le 1 count && nat_le count 64) (nat_le (offset + count) w)
    (and_from (nat_le 1 count) (nat_le count 64) (le-leb 1 count a) (le-leb count 64 b)) (le-leb (offset + count) w h)

pub part_inside : (o : Option ℕ) (offset count : ℕ) → part_refusal o offset count ≡ None → inside (size o) offset count ≡ true
part_inside o offset count e = accepted (inside (size o) offset count) (refused_part o) e

-- a call that is refused exactly where the part is not to be had, and was not refused
pub part_had : {X : Type 0} (r : Result X Refusal) (o : Option ℕ) (offset count : ℕ) → refusal r ≡ part_refusal o offset count → is_ok r ≡ true → inside (size o) offset count ≡ true
part_had (Ok x) o offset count e t = part_inside o offset count (sym e)
part_had (Err x) o offset count e t = let z : ◌≡◌ {A = ℕ} 0 1 = cc in absurd (omega arith)

no_part : (offset count : ℕ) → inside 0 offset count ≢ true
no_part offset count t = let q = in_part 0 offset count t in omega arith

-- as far as it lies inside the row, a part is one of the place and ends inside the row
pub inside_lies : (room : ℕ) (x : Option Span) (offset count : ℕ) → inside (size (width_of (lies room x))) offset count ≡ true
    → (inside (size (width_of x)) offset count ≡ true) × (start_of x + offset + count ≤ room)
inside_lies room None offset count t = absurd (no_part offset count t)
inside_lies room (Some s) offset count t =
    let P : Bool → Type 0 = λ b. inside (size (width_of (cond b (Some (clipped room s)) None))) offset count ≡ true
    → (inside s.width offset count ≡ true) × (s.start + offset + count ≤ room) in
    (elim (nat_lt s.start room) as P [
      | true ↦ λ e. let q = in_part (min s.width (room - s.start)) offset count e in (is_part s.width offset count q.0 q.1 (omega arith), omega arith)
      | false ↦ λ e. absurd (no_part offset count e)
    ]) t

module _ (offset count value : ℕ) (row row' : ℕ → ℕ) where
  -- after a write at `offset`, in a variable that starts at `start`
  abbrev Written : ℕ → Type 0
  Written start = (p : ℕ) → row' p ≡ cond (within (start + offset) count p) (bit value (p - (start + offset))) (row p)

  -- the variable itself
  here : (s : Span) (i : ℕ) → offset + count ≤ s.width → Written s.start
      → shown (Some s) row' i ≡ cond (within offset count i) (bit value (i - offset)) (shown (Some s) row i)
  here s i h e =
      let d : s.start + i - (s.start + offset) ≡ i - offset = omega arith in
      ap (λ (x : ℕ). cond (nat_lt i s.width) x 0)
      (e (s.start + i) ∙ ap (λ (x : ℕ). cond (within (s.start + offset) count (s.start + i)) (bit value x) (row (s.start + i))) d)
      ∙ grind (arith, nat_tests)

  -- a variable that lies elsewhere
  elsewhere : (s t : Span) (i : ℕ) → offset + count ≤ s.width → (s.start + s.width ≤ t.start) ⊎ (t.start + t.width ≤ s.start) → Written s.start
      → shown (Some t) row' i ≡ shown (Some t) row i
  elsewhere s t i h o e = ap (λ (x : ℕ). cond (nat_lt i t.width) x 0) (e (t.start + i)) ∙ grind (arith, nat_tests)

  -- the same of variables that may be lacking
  pub shown_here : (room : ℕ) (x : Option Span) (i : ℕ) → inside (size (width_of (lies room x))) offset count ≡ true → Written (start_of x)
      → shown (lies room x) row' i ≡ cond (within offset count i) (bit value (i - offset)) (shown (lies room x) row i)
  shown_here room None i a e = absurd (no_part offset count a)
  shown_here room (Some s) i a e =
      let P : Bool → Type 0 = λ b. inside (size (width_of (cond b (Some (clipped room s)) None))) offset count ≡ true
      → shown (cond b (Some (clipped room s)) None) row' i
      ≡ cond (within offset count i) (bit value (i - offset)) (shown (cond b (Some (clipped room s)) None) row i) in
      (elim (nat_lt s.start room) as P [
        | true ↦ λ b. here (clipped room s) i (in_part (min s.width (room - s.start)) offset count b).2 e
        | false ↦ λ b. absurd (no_part offset count b)
      ]) a

  pub shown_elsewhere : (room : ℕ) (x y : Option Span) (i : ℕ) → (before x y ≡ true) ⊎ (before y x ≡ true)
      → inside (size (width_of (lies room x))) offset count ≡ true → Written (start_of x) → shown (lies room y) row' i ≡ shown (lies room y) row i
  shown_elsewhere room None y i o a e = absurd (no_part offset count a)
  shown_elsewhere room (Some s) None i o a e = refl
  shown_elsewhere room (Some s) (Some t) i o a e =
      let h : offset + count ≤ s.width = (in_part s.width offset count (inside_lies room (Some s) offset count a).0).2 in
      let P : Bool → Type 0 = λ b. shown (cond b (Some (clipped room t)) None) row' i ≡ shown (cond b (Some (clipped room t)) None) row i in
      elim (nat_lt t.start room) as P [
        | true ↦ elsewhere s (clipped room t) i h
            (⊎_elim (λ l. inl (leb-true (s.start + s.width) t.start l))
            (λ l. inr (let m : t.start + t.width ≤ s.start = leb-true (t.start + t.width) s.start l in omega arith)) o) e
        | false ↦ refl
      ]

-- a write shows in the part that was written, and in no other bit of any variable
pub write_shows : (spans : List (Option Span)) (room offset count value name : ℕ) (row row' : ℕ → ℕ) → InOrder spans
    → inside (size (width_at room spans name)) offset count ≡ true → Written offset count value row row' (start_of (span_at spans name))
    → (k i : ℕ) → shown (seen room spans k) row' i ≡ cond (k == name && within offset count i) (bit value (i - offset)) (shown (seen room spans k) row i)
write_shows spans room offset count value name row row' o a e k i =
    ⊎_elim
    (λ (q : k ≡ name).
    ap (λ (x : ℕ). shown (seen room spans x) row' i) q
    ∙ shown_here offset count value row row' room (span_at spans name) i a e
    ∙ sym (ap₂ (λ (b : Bool) (y : ℕ). cond (b && within offset count i) (bit value (i - offset)) y)
    (eq-eqb k name q) (ap (λ (x : ℕ). shown (seen room spans x) row i) q)))
    (λ (q : k ≡ name → ⊥).
    let apart : (before (span_at spans name) (span_at spans k) ≡ true) ⊎ (before (span_at spans k) (span_at spans name) ≡ true) =
    ⊎_elim (λ (l : k < name). inr (o k name l)) (λ (l : name ≤ k). inl (o name k (omega arith))) (cases_lt k name) in
    shown_elsewhere offset count value row row' room (span_at spans name) (span_at spans k) i apart a e
    ∙ sym (ap (λ (b : Bool). cond (b && within offset count i) (bit value (i - offset)) (shown (seen room spans k) row i)) (ne_eqb k name q)))
    (cases_eq k name)

-- a row that stayed shows the same
shown_same : (s : Option Span) (row row' : ℕ → ℕ) (i : ℕ) → ((p : ℕ) → row' p ≡ row p) → shown s row' i ≡ shown s row i
shown_same None row row' i e = refl
shown_same (Some s) row row' i e = ap (λ (x : ℕ). cond (nat_lt i s.width) x 0) (e (s.start + i))

-- the same of a write that may have been refused, and then changed nothing
pub write_seen : (ok : Bool) (spans : List (Option Span)) (room offset count value name : ℕ) (row row' : ℕ → ℕ) → InOrder spans
    → (ok ≡ true → inside (size (width_at room spans name)) offset count ≡ true)
    → ((p : ℕ) → row' p ≡ cond (ok && within (start_of (span_at spans name) + offset) count p) (bit value (p - (start_of (span_at spans name) + offset))) (row p))
    → (k i : ℕ) → shown (seen room spans k) row' i ≡ cond (ok && k == name && within offset count i) (bit value (i - offset)) (shown (seen room spans k) row i)
write_seen true spans room offset count value name row row' o a e k i = write_shows spans room offset count value name row row' o (a refl) e k i
write_seen false spans room offset count value name row row' o a e k i = shown_same (seen room spans k) row row' i e

pub is_some_placed : (room at w : ℕ) → is_some (placed room at w) ≡ fits room at w
is_some_placed room at w =
    let s : Span = record { start = at; width = w } in
    elim (fits room at w) as (λ t. is_some (cond t (Some s) None) ≡ t) [ true ↦ refl | false ↦ refl ]

-- what is left of the room
pub taken : (room at w : ℕ) → at ≤ room → at + cond (fits room at w) w 0 ≤ room
taken room at w h = grind (arith, nat_tests)

-- the places, as far as there are spans to note them in
pub noted : (room : ℕ) (ws : List ℕ) (spans : List (Option Span)) (n : ℕ) → length spans ≡ n
    → ((k : ℕ) → k < n → span_at spans k ≡ span_at (laid room 0 ws) k) → (k : ℕ) → span_at spans k ≡ span_at (laid room 0 (take n ws)) k
noted room ws spans n l h k =
    ⊎_elim
    (λ (b : k < n). h k b ∙ sym (laid_take room 0 ws n k b))
    (λ (b : n ≤ k). get_or_past spans k None (omega arith) ∙ sym (laid_past room 0 (take n ws) k (omega (arith, length-take n ws))))
    (cases_lt k n)

shown_inside : (room : ℕ) (s : Span) (i : ℕ) → i < size (width_of (lies room (Some s))) → i < s.width
shown_inside room s i h =
    let P : Bool → Type 0 = λ b. i < size (width_of (cond b (Some (clipped room s)) None)) → i < s.width in
    (elim (nat_lt s.start room) as P [ true ↦ λ (l : i < min s.width (room - s.start)). omega arith | false ↦ λ (l : i < 0). absurd (omega arith) ]) h

apart : (room : ℕ) (x y : Option Span) (i l : ℕ) → before x y ≡ true → i < size (width_of (lies room x)) → l < size (width_of (lies room y))
    → start_of x + i < start_of y + l
apart room None y i l o h m = absurd (omega arith)
apart room (Some s) None i l o h m = absurd (omega arith)
apart room (Some s) (Some t) i l o h m = omega (arith, leb-true (s.start + s.width) t.start o, shown_inside room s i h)

-- two variables have no place in common
pub places_apart : (room : ℕ) (spans : List (Option Span)) → InOrder spans → NoSharedPlace room spans
places_apart room spans o j k i l ne h m e =
    ⊎_elim
    (λ (a : j < k). omega (arith, apart room (span_at spans j) (span_at spans k) i l (o j k a) h m))
    (λ (a : k ≤ j). omega (arith, apart room (span_at spans k) (span_at spans j) l i (o k j (omega arith)) m h))
    (cases_lt j k)

-- a place that fits lies inside the row whole
placed_whole : (room at w : ℕ) → lies room (placed room at w) ≡ placed room at w
placed_whole room at w =
    let s : Span = record { start = at; width = w } in
    ⊎_elim
    (λ (e : fits room at w ≡ true).
    let p = and_parts (nat_le 1 w && nat_le w 65536) (nat_le (at + w) room) e in
    let a : 1 ≤ w = leb-true 1 w (and_parts (nat_le 1 w) (nat_le w 65536) p.0).0 in
    let b : at + w ≤ room = leb-true (at + w) room p.1 in
    let i : placed room at w ≡ Some s = cond-true (fits room at w) (Some s) None e in
    let l : at < room = omega arith in
    let m : min w (room - at) ≡ w = omega arith in
    ap (lies room) i ∙ cond-true (nat_lt at room) (Some (clipped room s)) None (lt-ltb at room l)
    ∙ ap (λ (x : ℕ). Some (record { start = at; width = x })) m ∙ sym i)
    (λ (e : fits room at w ≡ false).
    let i : placed room at w ≡ None = cond-false (fits room at w) (Some s) None e in ap (lies room) i ∙ sym i)
    (cases_Bool (fits room at w))

pub laid_whole : (room at : ℕ) (ws : List ℕ) (k : ℕ) → seen room (laid room at ws) k ≡ span_at (laid room at ws) k
laid_whole room at [] k = refl
laid_whole room at (w ∷ ws) zero = placed_whole room at w
laid_whole room at (w ∷ ws) (suc k) = laid_whole room (at + cond (fits room at w) w 0) ws k
