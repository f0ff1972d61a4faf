use Rattle.layout_laws.proofs.Named.{names_never_run_out}
use Rattle.layout_laws.proofs.name_laws.names_never_run_out.Goals as goal

pub returns : goal.returns
returns c = record { law = names_never_run_out }
