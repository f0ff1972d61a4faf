use Rattle.std.proofs.Common.{[]}
use Rattle.components.proofs.Aligned.{overall_folded}
use Rattle.components.proofs.laws.aligned_one_by_one.Goals as goal

pub returns : goal.returns
returns c = record { law = overall_folded [] }
