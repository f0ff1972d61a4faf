-- How fillers without end align concatenations.
use Rattle.std.specs.Prelude.{ℕ, ◌+◌, Bool, cond, not, ◌||◌, List, length, ◌==◌, nat_le}
use Rattle.std.specs.List.{prefix_len}
use Rattle.components.specs.declared.component.Component.{Component}
use Rattle.components.specs.declared.concatenation.FillerAlign.{FillerAlign}
use Rattle.components.specs.declared.concatenation.FillerAlign.TheVariants.{None, Single, Lsb, Msb, Mid, Multiple}
use Rattle.components.specs.Parts.{unbounded_filler}
use Rattle.components.specs.Concatenations.{some_of, all_of}

abbrev pub number_of : FillerAlign → ℕ
number_of None = 0
number_of Single = 1
number_of Lsb = 2
number_of Msb = 3
number_of Mid = 4
number_of Multiple = 5

-- whether two alignments are the same
abbrev pub same : FillerAlign → FillerAlign → Bool
same a b = number_of a == number_of b

-- the index of the first filler without end, or how many components there are where there is none
abbrev pub first_unbounded : {T : Type 0} → List (Component T) → ℕ
first_unbounded cs = prefix_len (λ c. not (unbounded_filler c)) cs

-- the alignment by a filler without end at index i of n: none past the end, else single, on top, at the bottom or between
abbrev pub align_at : ℕ → ℕ → FillerAlign
align_at i n =
    cond (nat_le n i) None (cond (n == 1) Single (cond (i + 1 == n) Lsb (cond (i == 0) Msb Mid)))

abbrev pub alignment : {T : Type 0} → List (Component T) → FillerAlign
alignment cs = align_at (first_unbounded cs) (length cs)

-- all of them are of this kind or single
abbrev pub all_like : FillerAlign → List FillerAlign → Bool
all_like kind kinds = all_of (λ a. same a Single || same a kind) kinds

-- the alignment of several concatenations: none if one of them has none, else single if all are, else the one kind of
-- those that are not single, else multiple
abbrev pub overall : List FillerAlign → FillerAlign
overall kinds =
    cond (some_of (λ a. same a None) kinds) None (cond (all_like Single kinds) Single (cond (all_like Lsb kinds) Lsb (cond (all_like Msb kinds) Msb (cond (all_like Mid kinds) Mid Multiple))))

-- the alignment of some concatenations with that of one more: none absorbs, single changes nothing, and two kinds that
-- differ are multiple
abbrev pub together : FillerAlign → FillerAlign → FillerAlign
together a b =
    cond (same a None || same b None) None (cond (same a Single) b (cond (same b Single || same a b) a Multiple))
