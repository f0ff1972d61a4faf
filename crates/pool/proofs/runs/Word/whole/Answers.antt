use Rattle.std.proofs.Common.{ap, length, ◌∙◌, arith}
use Rattle.std.proofs.lemmas.List.{take_all}
use Rattle.pool.specs.declared.runs.Run.{Run}
use Rattle.pool.specs.Runs.{run_of, run_end}
use Rattle.pool.proofs.runs.Word.whole.Goals as goal

pub returns : goal.returns
returns g c =
    let parts = c.args.parts.now in
    record {
      all = ap (λ (r : Run). run_of r parts) c.new.ensures.run ∙ take_all (length parts) parts (omega arith);
      end = omega (arith, ap run_end c.new.ensures.run);
    }
