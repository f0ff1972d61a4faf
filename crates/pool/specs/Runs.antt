-- Runs of parts.
use Rattle.std.specs.Prelude.{◌≡◌, ℕ, ◌+◌, List, ◌++◌, length}
use Rattle.std.proofs.Common.{ap₂, ◌∙◌}
use Rattle.pool.specs.declared.runs.Run.{Run}
use Rattle.pool.specs.Words.{stretch_of}
use Rattle.pool.specs.Stretches.{stretch_moved}

-- the parts of a run
abbrev pub run_of : {P : Type 0} → Run → List P → List P
run_of run parts = stretch_of run.start run.len parts

-- where it ends among the parts
abbrev pub run_end : Run → ℕ
run_end run = run.start + run.len

-- a run that moved with its parts
pub run_moved : {P : Type 0} (old new : Run) (by : ℕ) → new.start ≡ old.start + by → new.len ≡ old.len → (ps qs : List P) → length ps ≡ by → run_of new (ps ++ qs) ≡ run_of old qs
run_moved old new by start len ps qs h = ap₂ (λ (s n : ℕ). stretch_of s n (ps ++ qs)) start len ∙ stretch_moved old.start old.len by ps qs h
