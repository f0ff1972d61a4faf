use Rattle.std.proofs.Common.{sym, ap, ◌∙◌, arith}
use Rattle.pool.specs.Runs.{run_moved}
use Rattle.lower.specs.Keys.{named, start_of, start_reach}
use Rattle.lower.specs.declared.keys.Base.{Base}
use Rattle.lower.proofs.keys.Base.moved.Goals as goal

pub returns-in-Named : goal.returns-in-Named
returns-in-Named c = let m = c.moved.ensures in record {
  reach = omega (arith, m.start, m.len, ap start_reach c.in-Named.is);
  meaning = λ ps qs h. ap named (run_moved _ _ c.args.by m.start m.len ps qs h) ∙ sym (ap (λ (k : Base). start_of k qs) c.in-Named.is);
}
