use Rattle.std.proofs.Common.{rules, tests}
use Rattle.std.proofs.lemmas.Iterator.{YieldsList-from_slice}
use Rattle.std.proofs.lemmas.Iterator.Search.{all_from_yields_List}
use Rattle.texts.specs.Printable.{printable}
use Rattle.texts.proofs.printable.all_printable.Goals as goal

pub returns : goal.returns
returns c =
    record {
      answer = all_from_yields_List printable _ _ _ c.all.ensures.ran (YieldsList-from_slice c.args.bytes.now cc) (λ x b q k. search (rules, tests));
    }
