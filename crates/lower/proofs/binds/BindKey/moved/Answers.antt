use Rattle.std.proofs.Common.{sym, ap, ◌∙◌, arith}
use Rattle.pool.specs.Runs.{run_moved}
use Rattle.lower.specs.Keys.{binding_of, binding_reach, variable}
use Rattle.lower.specs.declared.keys.Bind.{Bind}
use Rattle.lower.proofs.binds.BindKey.moved.Goals as goal

pub returns-in-Txt : goal.returns-in-Txt
returns-in-Txt c = let m = c.moved.ensures in record {
  reach = omega (arith, m.start, m.len, ap binding_reach c.in-Txt.is);
  meaning = λ ps qs h l. ap variable (run_moved _ _ c.args.by m.start m.len ps qs h) ∙ sym (ap (λ (k : Bind). binding_of k qs) c.in-Txt.is);
}
