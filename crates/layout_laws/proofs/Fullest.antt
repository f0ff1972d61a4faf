-- The full claims, one after the other.
use Rattle.std.proofs.Common.{◌≡◌, ℕ, zero, suc, ◌<◌, Bool, true, false, cond, not, ◌&&◌, ◌||◌, eqb, leb, List, [], ◌∷◌, length, get_or, is_some, Some, None, Decides, sum_by, Option, sym, refl, ap, ◌∙◌, ⊎_elim, arith}
use Rattle.std.proofs.ByRecursion.{All-from_get_or, All-get_or, Decides-by_and}
use Rattle.std.proofs.lemmas.List.{get_or_append_left, get_or_push, length_push}
use Rattle.std.proofs.lemmas.Bool.{and_from, cases_eq, eq-eqb, eqb-true, false≢true}
use Rattle.std.proofs.lemmas.Bool.Decides.{Decides-at}
use Rattle.std.specs.Option.{option_or}
use Rattle.std.specs.List.{AllByRecursion}
use Rattle.names.specs.declared.numbers.PName.{PName}
use Rattle.components.specs.Concatenations.{all_of, bits_of, certainly_wide, deterministic, known_width, some_of}
use Rattle.components.specs.declared.component.Component.{Component}
use Rattle.layout.specs.Claims.{agrees, alignment_true, claims_true, concat_true, concats_true, every_below, gives_width, no_claim, nonzero_true, same_bool, some_below, width_agrees, width_true}
use Rattle.layout.specs.Layouts.{Described, comps_at, concats}
use Rattle.layout.specs.declared.claims.ConcatClaim.{ConcatClaim}
use Rattle.layout_laws.specs.FullClaims.{FullClaimsHold, WidthsAgree, first_claims, first_width, full_alignment, full_claim, full_claims, full_common, full_nonzero, full_width}

-- a claim for each concatenation, in order
first_count : (d : Described) (n : ℕ) → length (first_claims d n) ≡ n
first_count d zero = refl
first_count d (suc n) = omega (arith, length_push (first_claims d n) (full_claim (comps_at d n)), first_count d n)

first_at : (d : Described) (n k : ℕ) (e : ConcatClaim) → k < n → get_or (first_claims d n) k e ≡ full_claim (comps_at d k)
first_at d zero k e h = absurd (omega arith)
first_at d (suc n) k e h =
    ⊎_elim
    (λ (s : k ≡ n). get_or_push (first_claims d n) (full_claim (comps_at d n)) e k (first_count d n ∙ sym s) ∙ ap (λ i. full_claim (comps_at d i)) (sym s))
    (λ (o : k ≡ n → ⊥).
    let l : k < n = omega arith in
    get_or_append_left (first_claims d n) (full_claim (comps_at d n) ∷ []) e k (omega (arith, first_count d n)) ∙ first_at d n k e l)
    (cases_eq k n)

-- each is true of its concatenation
claim_true : (comps : List (Component PName)) → concat_true comps (full_claim comps) ≡ true
claim_true comps =
    and_from (same_bool (deterministic comps) (deterministic comps)) (width_true comps (full_width comps)) (same_itself (deterministic comps)) (width_is (all_of known_width comps) (sum_by bits_of comps) refl refl)
  where
    same_itself : (b : Bool) → same_bool b b ≡ true
    same_itself true = refl
    same_itself false = refl

    width_is : (all : Bool) (n : ℕ) → all_of known_width comps ≡ all → sum_by bits_of comps ≡ n → width_true comps (cond (all && leb 1 n) (Some n) None) ≡ true
    width_is false n a e = refl
    width_is true n a e = big (leb 1 n) refl
      where
        big : (b : Bool) → leb 1 n ≡ b → width_true comps (cond b (Some n) None) ≡ true
        big true f = and_from (all_of known_width comps && eqb (sum_by bits_of comps) n) (leb 1 n) (and_from (all_of known_width comps) (eqb (sum_by bits_of comps) n) a (eq-eqb (sum_by bits_of comps) n e)) f
        big false f = refl

every_from : (test : ℕ → Bool) (n : ℕ) → ((k : ℕ) → k < n → test k ≡ true) → every_below test n ≡ true
every_from test zero h = refl
every_from test (suc n) h = and_from (every_below test n) (test n) (every_from test n (λ k l. h k (omega arith))) (h n (omega arith))

concats_hold : (d : Described) → concats_true d (full_claims d) ≡ true
concats_hold d =
    and_from (eqb (length (full_claims d)) (concats d)) (every_below (λ k. concat_true (comps_at d k) (get_or (full_claims d) k no_claim)) (concats d))
    (eq-eqb (length (full_claims d)) (concats d) (first_count d (concats d)))
    (every_from (λ k. concat_true (comps_at d k) (get_or (full_claims d) k no_claim)) (concats d)
    (λ k h. ap (concat_true (comps_at d k)) (first_at d (concats d) k no_claim h) ∙ claim_true (comps_at d k)))

-- the alignment, and that it is not zero, hold as they are
alignment_holds : (d : Described) → alignment_true d (full_alignment d) ≡ true
alignment_holds d = eq-eqb (full_alignment d) (full_alignment d) refl

nonzero_holds : (d : Described) → nonzero_true d (full_common d) (full_nonzero d) ≡ true
nonzero_holds d = go (is_some (full_common d)) (some_below (λ k. certainly_wide (comps_at d k)) (concats d))
  where
    go : (a b : Bool) → (not (a || b) || a || b) ≡ true
    go true b = refl
    go false true = refl
    go false false = refl

-- a static width is given exactly if there is a first one
given : (claims : List ConcatClaim) → some_of gives_width claims ≡ is_some (first_width claims)
given [] = refl
given (claim ∷ claims) = go claim.static_width (given claims)
  where
    go : (o : Option ℕ) → some_of gives_width claims ≡ is_some (first_width claims) → (is_some o || some_of gives_width claims) ≡ is_some (option_or o (first_width claims))
    go None e = e
    go (Some w) e = refl

common_given : (claims : List ConcatClaim) → (not (is_some (first_width claims)) || some_of gives_width claims) ≡ true
common_given claims = ap (λ (b : Bool). not (is_some (first_width claims)) || b) (given claims) ∙ either (is_some (first_width claims))
  where
    either : (b : Bool) → (not b || b) ≡ true
    either true = refl
    either false = refl

-- the first static width is that of some claim
first_found : (claims : List ConcatClaim) (e : ConcatClaim) (k w : ℕ) → k < length claims → (get_or claims k e).static_width ≡ Some w
    → (j : ℕ) × (v : ℕ) × (j < length claims) × ((get_or claims j e).static_width ≡ Some v) × (first_width claims ≡ Some v)
first_found [] e k w h s = absurd (omega arith)
first_found (claim ∷ claims) e zero w h s = (0, w, omega arith, s, ap (λ o. option_or o (first_width claims)) s)
first_found (claim ∷ claims) e (suc k) w h s = go claim.static_width refl (first_found claims e k w (omega arith) s)
  where
    go : (o : Option ℕ) → claim.static_width ≡ o
        → (j : ℕ) × (v : ℕ) × (j < length claims) × ((get_or claims j e).static_width ≡ Some v) × (first_width claims ≡ Some v)
        → (j : ℕ) × (v : ℕ) × (j < length (claim ∷ claims)) × ((get_or (claim ∷ claims) j e).static_width ≡ Some v) × (option_or claim.static_width (first_width claims) ≡ Some v)
    go (Some v) i r = (0, v, omega arith, i, ap (λ o. option_or o (first_width claims)) i)
    go None i r = (suc r.0, r.1, omega (arith, r.2), r.3, ap (λ o. option_or o (first_width claims)) i ∙ r.4)

-- all agree with a width exactly if each does
agreeing : (common : Option ℕ) (claims : List ConcatClaim) → Decides (all_of (width_agrees common) claims) (AllByRecursion (λ claim. width_agrees common claim ≡ true) claims)
agreeing common claims =
    Decides-by_and (width_agrees common) (λ claim. width_agrees common claim ≡ true) (all_of (width_agrees common)) (λ claim. (λ h. h, λ h. h)) refl (λ _ _. refl) claims

agrees_with : (common : Option ℕ) (w : ℕ) → agrees common (Some w) ≡ true → common ≡ Some w
agrees_with None w h = absurd (false≢true h)
agrees_with (Some v) w h = ap Some (sym (eqb-true w v h))

module _ (d : Described) where
  width_at : (k : ℕ) → k < concats d → (get_or (full_claims d) k no_claim).static_width ≡ full_width (comps_at d k)
  width_at k h = ap (λ (claim : ConcatClaim). claim.static_width) (first_at d (concats d) k no_claim h)

  -- where all agree with the first, any two agree
  common_tells : all_of (width_agrees (full_common d)) (full_claims d) ≡ true → WidthsAgree d
  common_tells h j k w v l m p q =
      let one = known j w l p in
      let other = known k v m q in
      cc
    where
      known : (k w : ℕ) → k < concats d → full_width (comps_at d k) ≡ Some w → full_common d ≡ Some w
      known k w l p =
          agrees_with (full_common d) w
          (ap (agrees (full_common d)) (sym (width_at k l ∙ p))
          ∙ All-get_or (λ claim. width_agrees (full_common d) claim ≡ true) (full_claims d) k no_claim (omega (arith, first_count d (concats d)))
          ((agreeing (full_common d) (full_claims d)).0 h))

  -- where any two agree, all agree with the first
  common_from : WidthsAgree d → all_of (width_agrees (full_common d)) (full_claims d) ≡ true
  common_from a =
      (agreeing (full_common d) (full_claims d)).1
      (All-from_get_or (λ claim. width_agrees (full_common d) claim ≡ true) (full_claims d) no_claim
      (λ k h. here k (omega (arith, first_count d (concats d))) (get_or (full_claims d) k no_claim).static_width refl))
    where
      here : (k : ℕ) → k < concats d → (o : Option ℕ) → (get_or (full_claims d) k no_claim).static_width ≡ o → agrees (full_common d) o ≡ true
      here k l None e = refl
      here k l (Some w) e =
          let n = first_count d (concats d) in
          let r = first_found (full_claims d) no_claim k w (omega (arith, n)) e in
          let m : r.0 < concats d = omega (arith, n, r.2) in
          ap (λ o. agrees o (Some w)) r.4
          ∙ eq-eqb w r.1 (a k r.0 w r.1 l m (sym (width_at k l) ∙ e) (sym (width_at r.0 m) ∙ r.3))

-- a test of several that rests on one of them
rests_on : (a b c d e : Bool) → a ≡ true → c ≡ true → d ≡ true → e ≡ true → (a && (b && c) && d && e) ≡ b
rests_on a true c d e p q r s = rw (p, q, r, s)
rests_on a false c d e p q r s = rw p

pub full_claims_hold : FullClaimsHold
full_claims_hold d =
    let agreed : Bool = all_of (width_agrees (full_common d)) (full_claims d) in
    let is-given : Bool = not (is_some (full_common d)) || some_of gives_width (full_claims d) in
    Decides-at (claims_true d (full_nonzero d) (full_common d) (full_alignment d) (full_claims d)) agreed
    (rests_on (concats_true d (full_claims d)) agreed is-given (alignment_true d (full_alignment d)) (nonzero_true d (full_common d) (full_nonzero d))
    (concats_hold d) (common_given (full_claims d)) (alignment_holds d) (nonzero_holds d))
    (common_tells d, common_from d)
