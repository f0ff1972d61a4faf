use Rattle.std.proofs.Common.{refl}
use Rattle.bits.specs.Bit.{bit}
use Rattle.host_cases.proofs.examples.places.Goals as goal

pub returns : goal.returns
unfolding bit
returns c = record { example = (refl, refl, refl, refl, refl, refl) }
