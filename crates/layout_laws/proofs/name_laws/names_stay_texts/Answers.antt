use Rattle.layout_laws.proofs.Named.{names_stay_texts}
use Rattle.layout_laws.proofs.name_laws.names_stay_texts.Goals as goal

pub returns : goal.returns
returns c = record { law = names_stay_texts }
