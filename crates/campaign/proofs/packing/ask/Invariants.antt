use Rattle.std.proofs.Common.{◌≡◌, ℕ, ◌<◌, true, get_or, is_ok}
use Rattle.campaign.specs.Copying.{name_of, shared}
use Rattle.campaign.specs.declared.fields.Field.TheVariants.{Chapter}
use Rattle.campaign.proofs.packing.ask.Given as goal

abbrev pub invariant-loop-field : goal.invariant-loop-field
invariant-loop-field g l =
    (j : ℕ) → j < l.field-index →
    is_ok (shared (g.S.Host.widths l.from (name_of (get_or l.fields j Chapter))) (g.T.Host.widths l.to (name_of (get_or l.fields j Chapter)))) ≡ true
