use Rattle.std.proofs.Common.{rules}
use Rattle.std.proofs.lemmas.Iterator.{YieldsList-from_slice}
use Rattle.std.proofs.lemmas.Iterator.Search.{all_from_yields_List}
use Rattle.layout.specs.Handed.{around_handed}
use Rattle.layout.proofs.handed_names.CodeGen.fit.Goals as goal

pub returns : goal.returns
returns c =
    record { answer = all_from_yields_List around_handed _ _ c.all.result c.all.ensures.ran (YieldsList-from_slice _ c.iter.ensures.rest) (λ x b q k. search rules) }
