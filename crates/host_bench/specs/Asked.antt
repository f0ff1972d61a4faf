-- What a call of a host answers, and what it leaves.
use Rattle.std.specs.Prelude.{◌≡◌, ℕ, ◌+◌, Bool, Some, Option}
use Rattle.host.specs.Parts.{found, part_refusal, Holds, Written}
use Rattle.host.specs.Refusals.{refusal}
use Rattle.host.specs.declared.reasons.Refusal.{Refusal}
use Rattle.host_bench.specs.declared.answers.Reply.{Reply}
use Rattle.host_bench.specs.declared.answers.Reply.TheVariants as reply
use Rattle.host_bench.specs.declared.requests.Call.{Call}
use Rattle.host_bench.specs.declared.requests.Call.TheVariants.{Width, Number, Read, Write}

-- how a host of these widths and numbers refuses a call, if it does
abbrev pub call_refusal : (ℕ → Option ℕ) → (ℕ → Option ℕ) → Call → Option Refusal
call_refusal widths numbers (Width name) = refusal (found (widths name))
call_refusal widths numbers (Number name) = refusal (found (numbers name))
call_refusal widths numbers (Read name offset count) = part_refusal (widths name) offset count
call_refusal widths numbers (Write name offset count value) = part_refusal (widths name) offset count

-- what an accepted call is answered
abbrev pub Told : (ℕ → Option ℕ) → (ℕ → Option ℕ) → (ℕ → ℕ → ℕ) → Call → Reply → Type 0
Told widths numbers bits (Width name) told = (w : ℕ) × (told ≡ reply.Width w) × (widths name ≡ Some w)
Told widths numbers bits (Number name) told = (n : ℕ) × (told ≡ reply.Number n) × (numbers name ≡ Some n)
Told widths numbers bits (Read name offset count) told = (v : ℕ) × (told ≡ reply.Read v) × Holds v count (λ i. bits name (offset + i))
Told widths numbers bits (Write name offset count value) told = told ≡ reply.Done

-- the bits before a call and after it: only a write that is accepted changes any
abbrev pub Left : Call → Bool → (ℕ → ℕ → ℕ) → (ℕ → ℕ → ℕ) → Type 0
Left (Width name) accepted old new = (k i : ℕ) → new k i ≡ old k i
Left (Number name) accepted old new = (k i : ℕ) → new k i ≡ old k i
Left (Read name offset count) accepted old new = (k i : ℕ) → new k i ≡ old k i
Left (Write name offset count value) accepted old new = Written accepted name offset count value old new
