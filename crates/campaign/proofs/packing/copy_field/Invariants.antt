use Rattle.std.proofs.Common.{◌≡◌, ℕ, cond, ◌&&◌, eqb, ltb}
use Rattle.campaign.proofs.packing.copy_field.Given as goal

abbrev pub invariant-loop-done : goal.invariant-loop-done
invariant-loop-done g l =
    ((k : ℕ) → g.T.Host.widths l.to k ≡ g.T.Host.widths l.initial.to k)
    × ((k i : ℕ) → g.T.Host.bits l.to k i ≡ cond (eqb k l.name && ltb i l.done && ltb i l.width) (g.S.Host.bits l.from l.name i) (g.T.Host.bits l.initial.to k i))
