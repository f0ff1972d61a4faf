use Rattle.host.specs.Parts.{size}
use Rattle.host.proofs.SpanLaws.{places_apart}
use Rattle.host.proofs.laws.apart_in_window.Goals as goal

pub returns : goal.returns
returns g c = record {
  apart = λ j k i l ne h m.
      let window = c.args.window.now in
      places_apart (size (g.H.Host.widths window.below window.name)) window.table.spans window.table.ordered j k i l ne h m;
}
