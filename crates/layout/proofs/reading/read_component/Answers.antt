use Rattle.std.proofs.Common.{rules}
use Rattle.texts.specs.Texts.{lists_of}
use Rattle.layout.proofs.Readings.{read_whole}
use Rattle.layout.proofs.reading.read_component.Goals as goal

pub returns : goal.returns
returns c =
    let p = read_whole c.args.fn_names.now (lists_of c.args.texts.now) (λ a b h. search rules) (λ a b h. search rules) (λ a e h. search rules) (λ a e h. search rules) c.args.component c.try_map.result c.try_map.ensures.mapped c.try_map.ensures.refused in
    record { refused = p.0; texts = p.1 }
