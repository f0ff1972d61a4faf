use Rattle.std.proofs.Common.{rules, List, ℕ, Bor, map, sym, ◌∙◌}
use Rattle.std.proofs.lemmas.Iterator.{YieldsList-from_slice}
use Rattle.std.proofs.lemmas.Iterator.Search.{all_from_yields_List}
use Rattle.std.proofs.lemmas.List.Folds.{list_all-map}
use Rattle.layout.specs.Handed.{no_parenthesis}
use Rattle.layout.proofs.Walked.{all_same}
use Rattle.layout.proofs.handed.lack_parenthesis.Goals as goal

pub returns : goal.returns
returns c =
    let now : Bor (List ℕ) → List ℕ = λ text. text.now in
    record {
      answer = all_from_yields_List (λ (text : Bor (List ℕ)). no_parenthesis text.now) _ _ c.all.result c.all.ensures.ran (YieldsList-from_slice c.args.texts.now cc) (λ x b q k. search rules)
          ∙ sym (list_all-map no_parenthesis now c.args.texts.now)
          ∙ all_same no_parenthesis (map now c.args.texts.now);
    }
