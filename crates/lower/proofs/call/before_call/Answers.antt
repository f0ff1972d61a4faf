use Rattle.std.proofs.lemmas.Slice.Eq.{strip_suffix_is}
use Rattle.lower.proofs.call.before_call.Goals as goal
use Rattle.std.proofs.lemmas.Bool.Decides.{Decides-eqb}

pub returns : goal.returns
returns c = record { front = strip_suffix_is Decides-eqb c.args.text.now c.args.call.now c.strip_suffix.result c.strip_suffix.ensures.cases }
