use Rattle.std.proofs.Common.{◌∙◌, arith, rules, tests}
use Rattle.std.proofs.lemmas.Iterator.{YieldsList-from_slice}
use Rattle.std.proofs.lemmas.Iterator.Search.{position_from_yields_List}
use Rattle.lines.specs.Words.{blank}
use Rattle.lines.proofs.Splitting.{position_or, position_le}
use Rattle.lines.proofs.line.unbroken.Goals as goal

pub returns : goal.returns
returns c =
    let found = position_from_yields_List (blank) _ _ c.position-first.result c.position-first.ensures.ran (YieldsList-from_slice _ c.iter.ensures.rest) (λ x b q k. search (rules, tests)) in
    let count = c.unwrap_or.ensures ∙ position_or (blank) c.args.bytes.now c.position-first.result found in
    record {
      within = omega (arith, count, position_le (blank) c.args.bytes.now);
      count = count;
    }
