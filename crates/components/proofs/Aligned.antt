-- The alignment of several concatenations, found one by one.
use Rattle.std.proofs.Common.{◌≡◌, Bool, true, false, cond, ◌&&◌, ◌||◌, List, [], ◌∷◌, ◌++◌, fold, sym, refl, ap, ◌∙◌, append_assoc, append-nil}
use Rattle.std.proofs.lemmas.List.Recursion.{and_push, or_push}
use Rattle.std.proofs.lemmas.Bool.{and_from, and_parts, false≢true}
use Rattle.components.specs.declared.concatenation.FillerAlign.{FillerAlign}
use Rattle.components.specs.declared.concatenation.FillerAlign.TheVariants.{None, Single, Lsb, Msb, Mid, Multiple}
use Rattle.components.specs.Concatenations.{some_of, all_of}
use Rattle.components.specs.Alignments.{all_like, overall, same, together}

module _ {A : Type 0} where
  -- one more at the end of a list
  some_push : (test : A → Bool) (xs : List A) (x : A) → some_of test (xs ++ x ∷ []) ≡ some_of test xs || test x
  some_push test xs x = or_push (some_of test) test refl (λ y ys. refl) xs x

  all_push : (test : A → Bool) (xs : List A) (x : A) → all_of test (xs ++ x ∷ []) ≡ all_of test xs && test x
  all_push test xs x = and_push (all_of test) test refl (λ y ys. refl) xs x

  -- what two tests tell of each, they tell of all
  all_both : (p q r : A → Bool) → ((x : A) → p x ≡ true → q x ≡ true → r x ≡ true) → (xs : List A) → all_of p xs ≡ true → all_of q xs ≡ true → all_of r xs ≡ true
  all_both p q r tell [] a b = refl
  all_both p q r tell (x ∷ xs) a b =
      let f = and_parts (p x) (all_of p xs) a in
      let g = and_parts (q x) (all_of q xs) b in
      and_from (r x) (all_of r xs) (tell x f.0 g.0) (all_both p q r tell xs f.1 g.1)

-- what holds of each alignment holds of any
each : (P : FillerAlign → Type 0) → P None → P Single → P Lsb → P Msb → P Mid → P Multiple → (a : FillerAlign) → P a
each P none single lsb msb mid multiple None = none
each P none single lsb msb mid multiple Single = single
each P none single lsb msb mid multiple Lsb = lsb
each P none single lsb msb mid multiple Msb = msb
each P none single lsb msb mid multiple Mid = mid
each P none single lsb msb mid multiple Multiple = multiple

-- single, or of this kind
abbrev like : FillerAlign → FillerAlign → Bool
like kind a = same a Single || same a kind

-- the overall alignment, by what holds of all
abbrev picked : Bool → Bool → Bool → Bool → Bool → FillerAlign
picked none single lsb msb mid =
    cond none None (cond single Single (cond lsb Lsb (cond msb Msb (cond mid Mid Multiple))))

-- with one more it is that of both together
abbrev More : Bool → Bool → Bool → Bool → Bool → FillerAlign → Type 0
More none single lsb msb mid a =
    picked (none || same a None) (single && like Single a) (lsb && like Lsb a) (msb && like Msb a) (mid && like Mid a) ≡ together (picked none single lsb msb mid) a

-- all are like a kind where all are single, and only then like two
pub record Apart (single lsb msb mid : Bool) : Type 0 where
  pub to_lsb : single ≡ true → lsb ≡ true
  pub to_msb : single ≡ true → msb ≡ true
  pub to_mid : single ≡ true → mid ≡ true
  pub lsb_msb : lsb ≡ true → msb ≡ true → single ≡ true
  pub lsb_mid : lsb ≡ true → mid ≡ true → single ≡ true
  pub msb_mid : msb ≡ true → mid ≡ true → single ≡ true

more : (none single lsb msb mid : Bool) → Apart single lsb msb mid → (a : FillerAlign) → More none single lsb msb mid a
more true single lsb msb mid h a = refl
more false true false msb mid h a = absurd (false≢true (h.to_lsb refl))
more false true true false mid h a = absurd (false≢true (h.to_msb refl))
more false true true true false h a = absurd (false≢true (h.to_mid refl))
more false true true true true h a = each (More false true true true true) refl refl refl refl refl refl a
more false false true true mid h a = absurd (false≢true (h.lsb_msb refl refl))
more false false true false true h a = absurd (false≢true (h.lsb_mid refl refl))
more false false true false false h a = each (More false false true false false) refl refl refl refl refl refl a
more false false false true true h a = absurd (false≢true (h.msb_mid refl refl))
more false false false true false h a = each (More false false false true false) refl refl refl refl refl refl a
more false false false false true h a = each (More false false false false true) refl refl refl refl refl refl a
more false false false false false h a = each (More false false false false false) refl refl refl refl refl refl a

apart : (kinds : List FillerAlign) → Apart (all_like Single kinds) (all_like Lsb kinds) (all_like Msb kinds) (all_like Mid kinds)
apart kinds = record {
  to_lsb = λ s. single_like Lsb s;
  to_msb = λ s. single_like Msb s;
  to_mid = λ s. single_like Mid s;
  lsb_msb = all_both (like Lsb) (like Msb) (like Single) (each (λ a. like Lsb a ≡ true → like Msb a ≡ true → like Single a ≡ true) (λ p q. p) (λ p q. p) (λ p q. q) (λ p q. p) (λ p q. p) (λ p q. p)) kinds;
  lsb_mid = all_both (like Lsb) (like Mid) (like Single) (each (λ a. like Lsb a ≡ true → like Mid a ≡ true → like Single a ≡ true) (λ p q. p) (λ p q. p) (λ p q. q) (λ p q. p) (λ p q. p) (λ p q. p)) kinds;
  msb_mid = all_both (like Msb) (like Mid) (like Single) (each (λ a. like Msb a ≡ true → like Mid a ≡ true → like Single a ≡ true) (λ p q. p) (λ p q. p) (λ p q. p) (λ p q. q) (λ p q. p) (λ p q. p)) kinds;
}
  where
    single_like : (kind : FillerAlign) → all_like Single kinds ≡ true → all_like kind kinds ≡ true
    single_like kind s =
        all_both (like Single) (like Single) (like kind) (each (λ a. like Single a ≡ true → like Single a ≡ true → like kind a ≡ true) (λ p q. absurd (false≢true p)) (λ p q. refl) (λ p q. absurd (false≢true p)) (λ p q. absurd (false≢true p)) (λ p q. absurd (false≢true p)) (λ p q. absurd (false≢true p))) kinds s s

-- one concatenation more
pub overall_more : (kinds : List FillerAlign) (a : FillerAlign) → overall (kinds ++ a ∷ []) ≡ together (overall kinds) a
overall_more kinds a =
    rw (some_push (λ b. same b None) kinds a, all_push (like Single) kinds a, all_push (like Lsb) kinds a, all_push (like Msb) kinds a, all_push (like Mid) kinds a) (more (some_of (λ b. same b None) kinds) (all_like Single kinds) (all_like Lsb kinds) (all_like Msb kinds) (all_like Mid kinds) (apart kinds) a)

-- more of them, one by one
pub overall_folded : (kinds more : List FillerAlign) → fold together (overall kinds) more ≡ overall (kinds ++ more)
overall_folded kinds [] = sym (ap overall (append-nil kinds))
overall_folded kinds (a ∷ rest) =
    ap (λ b. fold together b rest) (sym (overall_more kinds a)) ∙ overall_folded (kinds ++ a ∷ []) rest ∙ ap overall (append_assoc kinds (a ∷ []) rest)
