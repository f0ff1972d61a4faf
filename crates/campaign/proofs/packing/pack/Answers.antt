use Rattle.std.proofs.Common.{get_or, take, sym, rules}
use Rattle.host.specs.Parts.{size}
use Rattle.campaign.specs.Copying.{name_of, named}
use Rattle.campaign.specs.declared.fields.Field.TheVariants.{Chapter}
use Rattle.campaign.proofs.Naming.{named_more, carried_more}
use Rattle.campaign.proofs.packing.pack.Goals as goal

pub loop-field-preserved : goal.loop-field-preserved
loop-field-preserved g c = (
  search rules,
  λ k i.
      simp (sym (named_more k c.loop-field.field-index c.args.fields.now c.loop-field-test.true)) at
      (carried_more k (name_of (get_or c.args.fields.now c.loop-field.field-index Chapter)) i (named k (take c.loop-field.field-index c.args.fields.now))
      (λ n. g.S.Host.bits c.args.from.now n i) (λ n. size (g.S.Host.widths c.args.from.now n))
      (g.T.Host.bits c.args.to.now k i) (g.T.Host.bits c.loop-field.to k i) (g.T.Host.bits c.copy_field.new.to k i)
      (search rules) (c.loop-field.invariant.1 k i)),
)
