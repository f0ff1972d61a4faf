use Rattle.layout_laws.proofs.Grown.{begun_empty}
use Rattle.layout_laws.proofs.growth.begun_empty.Goals as goal

pub returns : goal.returns
returns c = record { law = begun_empty }
