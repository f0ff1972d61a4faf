use Rattle.std.proofs.Common.{◌∙◌, arith, rules}
use Rattle.std.proofs.lemmas.List.{take_all}
use Rattle.texts.proofs.lists.Texts.text.Goals as goal

pub returns-clause-lists : goal.returns-clause-lists
returns-clause-lists c = (c.front_of.result, c.front_of.ensures.text ∙ take_all 60 c.args.bytes.now (omega arith), search rules)
