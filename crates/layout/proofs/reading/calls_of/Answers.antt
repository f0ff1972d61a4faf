use Rattle.std.proofs.Common.{◌∙◌}
use Rattle.layout.proofs.Calls.{calls_behind, calls_not}
use Rattle.layout.proofs.reading.calls_of.Goals as goal

pub returns-in-Some : goal.returns-in-Some
returns-in-Some c =
    let p = c.in-Some.ensures.cases in
    record { answer = c.starts_with.ensures.value ∙ calls_behind c.args.name.now c.args.text.now c.in-Some.rest.now p.0 p.1 p.2 }

pub returns-in-None : goal.returns-in-None
returns-in-None c = record { answer = calls_not c.args.name.now c.args.text.now c.in-None.ensures.cases }
