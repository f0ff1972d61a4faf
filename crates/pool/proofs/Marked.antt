-- The marks of one entry are set: everything else stays.
use Rattle.std.proofs.Common.{◌≡◌, ℕ, ◌<◌, ◌≤◌, List, map, length, get_or, take, set, Ordering, sym, refl, ap, ◌∙◌, subst, arith}
use Rattle.std.proofs.Math.Seq.{take-set-lt}
use Rattle.std.proofs.lemmas.Grind.{common_steps}
use Rattle.std.proofs.lemmas.List.{length-take-le, map-set, set-get_or, get_or-map}
use Rattle.pool.specs.declared.entry.Entry.{Entry}
use Rattle.pool.specs.Held.{keys_of, marks_of, places_of, Ordered, FindableIn}

module _ {K M : Type 0} (es : List (Entry K M)) (used i : ℕ) (m : M) (x : Entry K M) (in' : i < used) (fits : used ≤ length es) where
  -- the entry as the code reads it, with the marks that it writes
  abbrev v : Entry K M
  v = record { key = (get_or es i x).key; marks = m; place = (get_or es i x).place }

  abbrev es' : List (Entry K M)
  es' = set es i v

  written : {Y : Type 0} (f : Entry K M → Y) → map f (take used es') ≡ set (map f (take used es)) i (f v)
  written f = ap (map f) (take-set-lt used es i v in') ∙ map-set f (take used es) i v

  -- what does not look at the marks stays
  mapped_marked : {Y : Type 0} (f : Entry K M → Y) → f v ≡ f (get_or es i x) → map f (take used es') ≡ map f (take used es)
  mapped_marked f e = written f ∙ ap (λ y. set (map f (take used es)) i y) same ∙ set-get_or (map f (take used es)) i (f x)
    where
      same : f v ≡ get_or (map f (take used es)) i (f x)
      same = grind (arith, common_steps, e, in', length-take-le used es fits, get_or-map f (take used es) i x (f x))

  pub keys_marked : {P A : Type 0} (meaning : K → List P → A) (ps : List P) → keys_of meaning ps (take used es') ≡ keys_of meaning ps (take used es)
  keys_marked meaning ps = mapped_marked (λ e. meaning e.key ps) refl

  pub marks_marked : marks_of (take used es') ≡ set (marks_of (take used es)) i m
  marks_marked = written (λ e. e.marks)

  pub findable_marked : {P A : Type 0} (order : A → A → Ordering) (meaning : K → List P → A) (reach : K → ℕ) (ps : List P) → FindableIn order meaning reach ps (take used es) → FindableIn order meaning reach ps (take used es')
  findable_marked order meaning reach ps f = record {
    ordered = subst (λ l. Ordered order l (places_of (take used es'))) (sym (keys_marked meaning ps)) (subst (λ l. Ordered order (keys_of meaning ps (take used es)) l) (sym (mapped_marked (λ e. e.place) refl)) f.ordered);
    reached = λ j d h. grind (arith, common_steps, h, in', fits, f.reached j d, f.reached i x);
  }
