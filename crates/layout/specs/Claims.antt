-- What may be claimed of a layout when it is sealed.
use Rattle.std.specs.Prelude.{ℕ, zero, suc, Bool, true, false, cond, not, ◌&&◌, ◌||◌, List, [], ◌∷◌, ◌++◌, length, is_some, Some, None, Option, ◌==◌, nat_le, nat_lt, slice_index_or}
use Rattle.names.specs.declared.numbers.PName.{PName}
use Rattle.components.specs.Alignments.{alignment, number_of, overall}
use Rattle.components.specs.Concatenations.{all_of, certainly_wide, deterministic, of_static_width, some_filler, some_of}
use Rattle.components.specs.declared.component.Component.{Component}
use Rattle.components.specs.declared.concatenation.FillerAlign.{FillerAlign}
use Rattle.texts.specs.declared.refusals.Refusal.{Refusal}
use Rattle.texts.specs.declared.refusals.Refusal.TheVariants.{NothingThere, UntrueClaim, WrongInitial}
use Rattle.layout.specs.Layouts.{Described, comps_at, concats}
use Rattle.layout.specs.declared.claims.ConcatClaim.{ConcatClaim}

-- every number below n passes, and some number does
abbrev pub every_below : (ℕ → Bool) → ℕ → Bool
every_below test zero = true
every_below test (suc n) = every_below test n && test n

abbrev pub some_below : (ℕ → Bool) → ℕ → Bool
some_below test zero = false
some_below test (suc n) = some_below test n || test n

-- there is a concatenation, and each has a component
abbrev pub filled : Described → Bool
filled d = nat_lt 0 (concats d) && every_below (λ k. nat_lt 0 (length (comps_at d k))) (concats d)

-- deterministic: claimed exactly of a concatenation without an unbounded filler
abbrev pub same_bool : Bool → Bool → Bool
same_bool true b = b
same_bool false b = not b

abbrev pub deterministic_true : List (Component PName) → Bool → Bool
deterministic_true comps claimed = same_bool claimed (deterministic comps)

-- static width: where one is claimed, every component has one, and it is their sum, at least 1
abbrev pub width_true : List (Component PName) → Option ℕ → Bool
width_true comps None = true
width_true comps (Some width) = of_static_width comps width

abbrev pub concat_true : List (Component PName) → ConcatClaim → Bool
concat_true comps claim = deterministic_true comps claim.deterministic && width_true comps claim.static_width

-- a claim for each concatenation, all of them true
abbrev pub no_claim : ConcatClaim
no_claim = record { deterministic = false; static_width = None }

abbrev pub concats_true : Described → List ConcatClaim → Bool
concats_true d claims =
    (length claims == concats d) && every_below (λ k. concat_true (comps_at d k) (slice_index_or claims k no_claim)) (concats d)

-- common width: claimed exactly if a static width is, and equal to each that is
abbrev pub agrees : Option ℕ → Option ℕ → Bool
agrees common None = true
agrees None (Some width) = false
agrees (Some common) (Some width) = width == common

abbrev pub width_agrees : Option ℕ → ConcatClaim → Bool
width_agrees common claim = agrees common claim.static_width

abbrev pub gives_width : ConcatClaim → Bool
gives_width claim = is_some claim.static_width

abbrev pub common_true : Option ℕ → List ConcatClaim → Bool
common_true common claims = all_of (width_agrees common) claims && (not (is_some common) || some_of gives_width claims)

-- alignment: that of the concatenations together, by its number
abbrev pub alignments : Described → ℕ → List FillerAlign
alignments d zero = []
alignments d (suc n) = alignments d n ++ alignment (comps_at d n) ∷ []

abbrev pub alignment_true : Described → ℕ → Bool
alignment_true d claimed = claimed == number_of (overall (alignments d (concats d)))

-- nonzero: claimed only with a common width, or where some component certainly has a bit
abbrev pub nonzero_true : Described → Option ℕ → Bool → Bool
nonzero_true d common claimed = not claimed || is_some common || some_below (λ k. certainly_wide (comps_at d k)) (concats d)

-- all claims are true
abbrev pub claims_true : Described → Bool → Option ℕ → ℕ → List ConcatClaim → Bool
claims_true d nonzero common align claims =
    concats_true d claims && common_true common claims && alignment_true d align && nonzero_true d common nonzero

-- the initial list: one of the lists, only of a returning layout, and there where such a one has a filler in its source
abbrev pub initial_fits : Described → Bool → Option ℕ → Bool
initial_fits d returning None = not (returning && some_filler (comps_at d 0))
initial_fits d returning (Some list) = returning && nat_le list 255

-- how sealing is refused, if it is
abbrev pub seal_answer : Described → Bool → Option ℕ → Bool → Option ℕ → ℕ → List ConcatClaim → Option Refusal
seal_answer d returning initial nonzero common align claims =
    cond (not (filled d)) (Some NothingThere)
    (cond (not (claims_true d nonzero common align claims)) (Some UntrueClaim)
    (cond (not (initial_fits d returning initial)) (Some WrongInitial) None))
