use Rattle.std.proofs.Common.{ap, ◌∙◌, take, drop}
use Rattle.lines.proofs.Splitting.{front_at, past_at}
use Rattle.lines.proofs.line.cut.Goals as goal

pub returns-clause-front : goal.returns-clause-front
returns-clause-front c = c.split_at.ensures.front ∙ ap (λ n. take n c.args.bytes.now) c.unbroken.ensures.count ∙ front_at c.args.bytes.now

pub returns-clause-rest : goal.returns-clause-rest
returns-clause-rest c = c.split_at.ensures.back ∙ ap (λ n. drop n c.args.bytes.now) c.unbroken.ensures.count ∙ past_at c.args.bytes.now
