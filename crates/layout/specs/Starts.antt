-- Concatenations as stretches of one list of components.
use Rattle.std.specs.Prelude.{ℕ, ◌+◌, ◌*◌, ◌≤◌, List, length, slice_index_or}
use Rattle.std.specs.List.{between}

-- where concatenation k begins; past the last one, where the components end
abbrev pub start_at : List ℕ → ℕ → ℕ → ℕ
start_at starts total k = slice_index_or starts k total

-- the components of concatenation k
abbrev pub concat_at : {C : Type 0} → List ℕ → List C → ℕ → List C
concat_at starts components k = between (start_at starts (length components) k) (start_at starts (length components) (k + 1)) components

-- at most 16 concatenations: none begins past the end or before the one before it, and each has at most 32 components, as have the
-- first k together at most 32 for each
pub record Begun (starts : List ℕ) (total : ℕ) : Type 0 where
  pub few : length starts ≤ 16
  pub inside : (k : ℕ) → start_at starts total k ≤ total
  pub rising : (k : ℕ) → start_at starts total k ≤ start_at starts total (k + 1)
  pub short : (k : ℕ) → start_at starts total k ≤ 32 * k
  pub each : (k : ℕ) → start_at starts total (k + 1) ≤ start_at starts total k + 32
