-- What is there is not absent.
use Rattle.std.proofs.Common.{◌≡◌, ℕ, Some, None, arith}

pub some_none : {A X : Type 0} (e : A) → Some e ≡ None → X
some_none e h = let z : ◌≡◌ {A = ℕ} 0 1 = cc in absurd (omega arith)
