use Rattle.std.proofs.Common.{ap, ◌∙◌, drop}
use Rattle.std.proofs.lemmas.List.{take_rest}
use Rattle.lines.proofs.Splitting.{after_blanks_at}
use Rattle.lines.proofs.line.unindented.Goals as goal

pub returns : goal.returns
returns c =
    record {
      rest = take_rest c.args.bytes.now c.blanks.result ∙ ap (λ n. drop n c.args.bytes.now) c.blanks.ensures.count ∙ after_blanks_at c.args.bytes.now;
    }
