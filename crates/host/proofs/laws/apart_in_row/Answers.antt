use Rattle.host.specs.Hosts.{spans_of}
use Rattle.host.proofs.SpanLaws.{places_apart}
use Rattle.host.proofs.laws.apart_in_row.Goals as goal

pub returns : goal.returns
returns g c = record {
  apart = λ j k i l ne h m a b.
      let host = c.args.host.now in
      places_apart (g.S.Storage.room host.store) (spans_of host) host.table.ordered j k i l ne h m
      (g.met.S.Exact.apart _ _ a b);
}
