use Rattle.std.proofs.Common.{length, sym, ap, ◌∙◌, arith}
use Rattle.lines.specs.Words.{first_word}
use Rattle.lines.proofs.Splitting.{none_left, word_shortens}
use Rattle.lines.proofs.line.Line.all.Goals as goal

pub loop-word-smaller : goal.loop-word-smaller
loop-word-smaller g c =
    omega (arith, word_shortens c.loop-word.self.rest.now c.in-Some.word.now c.in-Some.ensures.word, ap length c.in-Some.ensures.rest)

pub returns : goal.returns
returns g c = record { over = ap first_word c.next_word.ensures.rest ∙ none_left c.loop-word.self.rest.now (sym c.in_default.ensures.word) }
