use Rattle.std.proofs.Common.{sym}
use Rattle.std.proofs.lemmas.Result.{err_from_is_err_and}
use Rattle.layout.proofs.Rooms.{texts_refuse}
use Rattle.layout.proofs.ast.Layout.spelled.Goals as goal

pub returns-in_err-spelled : goal.returns-in_err-spelled
returns-in_err-spelled c =
    let p = err_from_is_err_and c.from_residual.result c.from_residual.ensures.1 in
    rw (p.1, p.2, ← c.self.view_is)
    (record {
      refused = texts_refuse _ _ _ c.in_err-spelled.field-0.0 (sym c.if-is_reversed.ensures.answer) c.in_err-spelled.ensures.refused;
      texts = tt;
      room = tt;
    })
