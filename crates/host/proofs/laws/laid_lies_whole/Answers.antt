use Rattle.host.proofs.SpanLaws.{laid_whole}
use Rattle.host.proofs.laws.laid_lies_whole.Goals as goal

pub returns : goal.returns
returns c = record { whole = λ room widths k. laid_whole room 0 widths k }
