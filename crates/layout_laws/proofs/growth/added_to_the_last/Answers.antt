use Rattle.layout_laws.proofs.Grown.{added_to_the_last}
use Rattle.layout_laws.proofs.growth.added_to_the_last.Goals as goal

pub returns : goal.returns
returns c = record { law = added_to_the_last }
