-- What a concatenation may be claimed to be, from its components.
use Rattle.std.specs.Prelude.{ℕ, ◌^◌, Bool, cond, not, ◌&&◌, ◌||◌, List, is_some, Some, None, Option, sum_by, ◌==◌, nat_le, nat_lt}
use Rattle.std.specs.List.{list_all, list_any}
use Rattle.std.specs.Option.{unwrap_or}
use Rattle.names.specs.declared.PName.{PName}
use Rattle.components.specs.declared.component.Component.{Component}
use Rattle.components.specs.Ranges.{range_width}
use Rattle.components.specs.Parts.{filler, full_range, unbounded_filler}

-- whether some of them passes the test, and whether all do
abbrev pub some_of : {A : Type 0} → (A → Bool) → List A → Bool
some_of test xs = list_any test xs

abbrev pub all_of : {A : Type 0} → (A → Bool) → List A → Bool
all_of test xs = list_all test xs

-- no component is a filler without end
abbrev pub deterministic : {T : Type 0} → List (Component T) → Bool
deterministic cs = not (some_of unbounded_filler cs)

-- some component is a filler
abbrev pub some_filler : {T : Type 0} → List (Component T) → Bool
some_filler cs = some_of filler cs

-- whether a component has a static width, and how many bits that is
abbrev pub known_width : Component PName → Bool
known_width c = is_some (range_width c.range)

abbrev pub bits_of : Component PName → ℕ
bits_of c = unwrap_or (range_width c.range) 0

-- the sum of the static widths, where each component has one and the sum is below 2^64
abbrev pub static_bits : List (Component PName) → Option ℕ
static_bits cs =
    cond (all_of known_width cs && nat_lt (sum_by bits_of cs) (2 ^ 64)) (Some (sum_by bits_of cs)) None

-- every component has a static width, their sum is n, and that is at least 1
abbrev pub of_static_width : List (Component PName) → ℕ → Bool
of_static_width cs n = all_of known_width cs && sum_by bits_of cs == n && nat_le 1 n

-- a variable or a literal of full range, or a component with a static width of at least 1
abbrev pub wide : Component PName → Bool
wide c = (not (filler c) && full_range c) || nat_le 1 (bits_of c)

abbrev pub certainly_wide : List (Component PName) → Bool
certainly_wide cs = some_of wide cs
