use Rattle.std.proofs.Common.{rules, ◌∙◌}
use Rattle.std.proofs.lemmas.Iterator.{YieldsList-from_slice}
use Rattle.std.proofs.lemmas.Iterator.Search.{all_from_yields_List}
use Rattle.layout.specs.Claims.{width_agrees}
use Rattle.layout.proofs.Walked.{all_same}
use Rattle.layout.proofs.sealing.all_agree.Goals as goal

pub returns : goal.returns
returns c =
    record {
      answer = all_from_yields_List (width_agrees c.args.common) _ _ c.all.result c.all.ensures.ran (YieldsList-from_slice c.args.claims.now cc) (λ x b q k. search rules)
          ∙ all_same (width_agrees c.args.common) c.args.claims.now;
    }
