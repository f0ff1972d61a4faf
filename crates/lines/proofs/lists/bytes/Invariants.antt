use Rattle.std.proofs.Common.{◌≡◌, vec_len}
use Rattle.lines.proofs.lists.bytes.Given as goal

abbrev pub invariant-loop-high : goal.invariant-loop-high
invariant-loop-high l = vec_len l.bytes ≡ l.high-index
