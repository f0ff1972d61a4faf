-- The bytes so far hold their eight places of `raw`; the others are as they were.
use Rattle.std.proofs.Common.{◌≡◌, ℕ, ◌*◌, ◌/◌, ◌%◌, ◌^◌, ◌<◌, cond, ltb, length, get_or}
use Rattle.host.proofs.in_bytes.put_few.Given as goal

abbrev pub invariant-loop-j : goal.invariant-loop-j
invariant-loop-j l =
    (m : ℕ) → m < length l.initial.bytes → get_or l.bytes m 0 ≡ cond (ltb m l.j) (l.raw / 2 ^ (8 * m) % 256) (get_or l.initial.bytes m 0)
