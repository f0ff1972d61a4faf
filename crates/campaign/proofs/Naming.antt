-- One more field carried over.
use Rattle.std.proofs.Common.{◌≡◌, ℕ, ◌+◌, ◌<◌, Bool, cond, ◌&&◌, ◌||◌, eqb, ltb, List, [], ◌∷◌, ◌++◌, length, get_or, take, sym, refl, ap, ◌∙◌, subst, ⊎_elim, arith}
use mathlib.Core.Bool.{or_assoc, or-false}
use Rattle.std.proofs.lemmas.List.{take_more}
use Rattle.std.proofs.lemmas.Bool.{cases_eq}
use Rattle.std.proofs.lemmas.Bool.Decides.{nat_tests}
use Rattle.campaign.specs.Copying.{name_of, named}
use Rattle.campaign.specs.declared.fields.Field.{Field}
use Rattle.campaign.specs.declared.fields.Field.TheVariants.{Chapter}

pub named_append : (k : ℕ) (xs ys : List Field) → named k (xs ++ ys) ≡ (named k xs || named k ys)
named_append k [] ys = refl
named_append k (x ∷ xs) ys =
    ap (λ (b : Bool). eqb k (name_of x) || b) (named_append k xs ys) ∙ sym (or_assoc (eqb k (name_of x)) (named k xs) (named k ys))

pub named_more : (k i : ℕ) (xs : List Field) → i < length xs → named k (take (i + 1) xs) ≡ (named k (take i xs) || eqb k (name_of (get_or xs i Chapter)))
named_more k i xs h =
    ap (named k) (take_more xs i Chapter h) ∙ named_append k (take i xs) (get_or xs i Chapter ∷ [])
    ∙ ap (λ (b : Bool). named k (take i xs) || b) (or-false (eqb k (name_of (get_or xs i Chapter))))

-- one turn: what is carried over under one more name
pub carried_more : (k name i : ℕ) (was : Bool) (bit width : ℕ → ℕ) (old now later : ℕ) →
    later ≡ cond (eqb k name && ltb i (width name)) (bit name) now →
    now ≡ cond (was && ltb i (width k)) (bit k) old →
    later ≡ cond ((was || eqb k name) && ltb i (width k)) (bit k) old
carried_more k name i was bit width old now later step before =
    ⊎_elim
    (λ (e : k ≡ name). let s : later ≡ cond (eqb k k && ltb i (width k)) (bit k) now = subst (λ (n : ℕ). later ≡ cond (eqb k n && ltb i (width n)) (bit n) now) (sym e) step in
    let t : later ≡ cond ((was || eqb k k) && ltb i (width k)) (bit k) old = grind (arith, nat_tests) in
    subst (λ (n : ℕ). later ≡ cond ((was || eqb k n) && ltb i (width k)) (bit k) old) e t)
    (λ n. grind (arith, nat_tests))
    (cases_eq k name)
