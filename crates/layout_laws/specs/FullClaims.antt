-- The most that can be claimed of a layout.
use Rattle.std.specs.Prelude.{◌≡◌, ℕ, zero, suc, ◌<◌, Bool, cond, ◌&&◌, ◌||◌, List, [], ◌∷◌, ◌++◌, is_some, Some, None, Decides, sum_by, Option, nat_le}
use Rattle.std.specs.Option.{option_or}
use Rattle.names.specs.declared.numbers.PName.{PName}
use Rattle.components.specs.Alignments.{number_of, overall}
use Rattle.components.specs.Concatenations.{all_of, bits_of, certainly_wide, deterministic, known_width}
use Rattle.components.specs.declared.component.Component.{Component}
use Rattle.layout.specs.Claims.{alignments, claims_true, some_below}
use Rattle.layout.specs.Layouts.{Described, comps_at, concats}
use Rattle.layout.specs.declared.claims.ConcatClaim.{ConcatClaim}

-- the sum of the components' static widths, where every component has one and the sum is at least 1
abbrev pub full_width : List (Component PName) → Option ℕ
full_width comps = cond (all_of known_width comps && nat_le 1 (sum_by bits_of comps)) (Some (sum_by bits_of comps)) None

-- whether it is deterministic, and its static width wherever it has one
abbrev pub full_claim : List (Component PName) → ConcatClaim
full_claim comps = record { deterministic = deterministic comps; static_width = full_width comps }

-- the full claims of the first n concatenations, and of all of them
abbrev pub first_claims : Described → ℕ → List ConcatClaim
first_claims d zero = []
first_claims d (suc n) = first_claims d n ++ full_claim (comps_at d n) ∷ []

abbrev pub full_claims : Described → List ConcatClaim
full_claims d = first_claims d (concats d)

-- the first static width that is given, for the common width
abbrev pub first_width : List ConcatClaim → Option ℕ
first_width [] = None
first_width (claim ∷ claims) = option_or claim.static_width (first_width claims)

abbrev pub full_common : Described → Option ℕ
full_common d = first_width (full_claims d)

-- nonzero wherever it may be claimed: with a common width, or where some component certainly has a bit
abbrev pub full_nonzero : Described → Bool
full_nonzero d = is_some (full_common d) || some_below (λ k. certainly_wide (comps_at d k)) (concats d)

-- the number of the alignment of all concatenations
abbrev pub full_alignment : Described → ℕ
full_alignment d = number_of (overall (alignments d (concats d)))

-- any two concatenations that have a static width have the same
abbrev pub WidthsAgree : Described → Type 0
WidthsAgree d =
    (j k w v : ℕ) → j < concats d → k < concats d → full_width (comps_at d j) ≡ Some w → full_width (comps_at d k) ≡ Some v → w ≡ v

-- the full claims are true exactly where static widths agree
abbrev pub FullClaimsHold : Type 0
FullClaimsHold =
    (d : Described) → Decides (claims_true d (full_nonzero d) (full_common d) (full_alignment d) (full_claims d)) (WidthsAgree d)
