use Rattle.std.proofs.Common.{sym, ◌∙◌}
use Rattle.std.proofs.lemmas.Map.Text.{is_eq-slice_cmp}
use Rattle.layout.proofs.reading.are_same.Goals as goal

pub returns : goal.returns
returns c = record { answer = c.eq.ensures ∙ sym (is_eq-slice_cmp c.args.a.now c.args.b.now) }
