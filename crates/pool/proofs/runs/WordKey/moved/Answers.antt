use Rattle.pool.specs.Runs.{run_moved}
use Rattle.pool.proofs.runs.WordKey.moved.Goals as goal

pub returns-clause-meaning : goal.returns-clause-meaning
returns-clause-meaning g c = λ ps qs h l. run_moved c.args.self.run c.moved.result c.args.by c.moved.ensures.start c.moved.ensures.len ps qs h
