use Rattle.std.proofs.Common.{◌≡◌, ◌^◌, ◌<◌, drop, Some}
use Rattle.lines.specs.Numbers.{worth_after}
use Rattle.lines.proofs.numbers.in_base.Given as goal

abbrev pub invariant-loop-byte : goal.invariant-loop-byte
invariant-loop-byte l =
    (l.value < 2 ^ 64)
    × (worth_after l.base (Some 0) l.digits ≡ worth_after l.base (Some l.value) (drop l.byte-index l.digits))
