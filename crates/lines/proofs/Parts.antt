-- Runs over the parts of a word.
use Rattle.std.specs.Prelude.{ℕ, Result, Ok, Err, IfOk}
use Rattle.std.specs.Iterator.Runs.{Trigger}

pub IfOk-mono : {T E : Type 0} (r : Result T E) (P Q : T → Type 0) → ((v : T) → P v → Q v) → IfOk r P → IfOk r Q
IfOk-mono (Ok v) P Q f h = f v h
IfOk-mono (Err e) P Q f h = h

pub seen : (n : ℕ) → Trigger n
unfolding Trigger
seen n = tt
