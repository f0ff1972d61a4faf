-- Each byte so far stands in its eight places, and nothing above them.
use Rattle.std.proofs.Common.{◌≡◌, ℕ, ◌*◌, ◌/◌, ◌%◌, ◌^◌, ◌<◌, get_or}
use Rattle.bits.specs.Bit.{bit}
use Rattle.host.proofs.in_bytes.few.Given as goal

abbrev pub invariant-loop-j : goal.invariant-loop-j
invariant-loop-j l =
    (l.raw < 2 ^ (8 * l.j))
    × ((i : ℕ) → i < 8 * l.j → bit l.raw i ≡ bit (get_or l.bytes (i / 8) 0) (i % 8))
