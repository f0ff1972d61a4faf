use Rattle.std.proofs.Common.{◌≡◌, ℕ, cond, ◌&&◌, ltb, take}
use Rattle.host.specs.Parts.{size}
use Rattle.campaign.specs.Copying.{named}
use Rattle.campaign.proofs.packing.pack.Given as goal

abbrev pub invariant-loop-field : goal.invariant-loop-field
invariant-loop-field g l =
    ((k : ℕ) → g.T.Host.widths l.to k ≡ g.T.Host.widths l.initial.to k)
    × ((k i : ℕ) → g.T.Host.bits l.to k i ≡ cond (named k (take l.field-index l.fields) && ltb i (size (g.S.Host.widths l.from k))) (g.S.Host.bits l.from k i) (g.T.Host.bits l.initial.to k i))
