use Rattle.std.proofs.Common.{ap, ◌∙◌, subst, sym}
use Rattle.std.specs.Option.{option_map}
use Rattle.std.specs.Prelude.{◌<◌, length, IfSome}
use Rattle.pool.specs.Held.{keys_of, places_of}
use Rattle.pool.proofs.Entries.{length_keys}
use Rattle.pool.proofs.Facts.{found_out}
use Rattle.pool.proofs.Slots.{sought_number, sought_within}
use Rattle.pool.proofs.lookup.find_in.Goals as goal

pub returns : goal.returns
returns g c =
    let es = c.args.entries.now in
    let ps = c.args.parts.now in
    let keys = keys_of g.K.Key.meaning ps es in
    let k = g.K.Key.meaning c.args.key c.args.own.now in
    let number = g.K.Number.Number.number in
    let f = found_out c.requires.sound in
    record {
      number = ap (option_map number) c.ok.ensures.value ∙ sought_number g.K.Key.order g.met.K.Key.orders keys (places_of es) f.ordered number k c.seek.result c.seek.ensures.sought;
      within = subst (λ r. IfSome r (λ n. number n < length es)) (sym c.ok.ensures.value) (sought_within g.K.Key.order g.met.K.Key.orders keys (places_of es) f.ordered number k (length es) (length_keys g.K.Key.meaning ps es) c.seek.result c.seek.ensures.sought);
    }
