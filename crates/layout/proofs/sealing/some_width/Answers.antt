use Rattle.std.proofs.Common.{rules, ◌∙◌}
use Rattle.std.proofs.lemmas.Iterator.{YieldsList-from_slice}
use Rattle.std.proofs.lemmas.Iterator.Search.{any_from_yields_List}
use Rattle.layout.specs.Claims.{gives_width}
use Rattle.layout.proofs.Walked.{some_same}
use Rattle.layout.proofs.sealing.some_width.Goals as goal

pub returns : goal.returns
returns c =
    record {
      answer = any_from_yields_List gives_width _ _ c.any.result c.any.ensures.ran (YieldsList-from_slice c.args.claims.now cc) (λ x b q k. search rules)
          ∙ some_same gives_width c.args.claims.now;
    }
