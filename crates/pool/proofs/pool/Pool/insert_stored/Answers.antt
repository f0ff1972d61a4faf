use Rattle.std.proofs.Common.{◌≡◌, ℕ, ◌<◌, ◌≤◌, true, false, [], ◌∷◌, ◌++◌, length, Some, Err, sym, refl, ap, ◌∙◌, subst, arith}
use Rattle.std.proofs.lemmas.List.{length-append, length-take-le}
use Rattle.std.proofs.lemmas.Bool.{both_ways}
use Rattle.pool.specs.Firsts.{known, number_in}
use Rattle.pool.specs.Held.{places_of, Sought, FindableIn}
use Rattle.pool.specs.Pools.{entries_of, in_use, pool_keys}
use Rattle.pool.specs.Stored.{parts_of, stored}
use Rattle.pool.proofs.Facts.{found_out}
use Rattle.pool.proofs.Firsts.{known_some, number_within, with_known, with_unknown, series_more}
use Rattle.pool.proofs.InUse.{long_keys, long_places}
use Rattle.pool.proofs.Insertion.{pool_marks_push}
use Rattle.pool.proofs.Pushed.{number_pushed, unknown}
use Rattle.pool.proofs.Slots.{once}
use Rattle.pool.proofs.Stays.{stored_keys, stored_sound}
use Rattle.pool.proofs.pool.Pool.insert_stored.Goals as goal

pub store-from-requires : goal.store-from-requires
store-from-requires g c =
    let pool = c.args.self.now in
    let ps = stored c.args.parts.now in
    let k = g.K.Key.meaning c.args.key c.args.own.now in
    let s : Sought g.K.Key.order g.K.Number.Number.number (pool_keys g.K.Key.meaning ps pool) (places_of (in_use pool)) k (Err c.in-Err.slot) = subst (λ l. Sought g.K.Key.order g.K.Number.Number.number (pool_keys g.K.Key.meaning l pool) (places_of (in_use pool)) k (Err c.in-Err.slot)) c.stored.ensures.stored c.in-Err.ensures.sought in
    record { room = c.requires.parts_room (unknown g.K.Key.order g.met.K.Key.orders (pool_keys g.K.Key.meaning ps pool) (places_of (in_use pool)) (found_out c.requires.sound).ordered k c.in-Err.slot s.0 s.1 s.2) }

pub put-requires : goal.put-requires
put-requires g c =
    let pool = c.args.self.now in
    let ps = stored c.args.parts.now in
    let k = g.K.Key.meaning c.args.key c.args.own.now in
    let s : Sought g.K.Key.order g.K.Number.Number.number (pool_keys g.K.Key.meaning ps pool) (places_of (in_use pool)) k (Err c.in-Err.slot) = subst (λ l. Sought g.K.Key.order g.K.Number.Number.number (pool_keys g.K.Key.meaning l pool) (places_of (in_use pool)) k (Err c.in-Err.slot)) c.stored.ensures.stored c.in-Err.ensures.sought in
    record {
      slot = omega (arith, long_places pool, s.0);
      room = c.requires.room (unknown g.K.Key.order g.met.K.Key.orders (pool_keys g.K.Key.meaning ps pool) (places_of (in_use pool)) (found_out c.requires.sound).ordered k c.in-Err.slot s.0 s.1 s.2);
    }

pub returns-in-Ok : goal.returns-in-Ok
returns-in-Ok g c =
    let pool = c.args.self.now in
    let ps = stored c.args.parts.now in
    let k = g.K.Key.meaning c.args.key c.args.own.now in
    let keys = pool_keys g.K.Key.meaning ps pool in
    let n = g.K.Number.Number.number c.in-Ok.known in
    let found : number_in g.K.Key.order keys k ≡ Some n = subst (λ l. number_in g.K.Key.order (pool_keys g.K.Key.meaning l pool) k ≡ Some n) c.stored.ensures.stored c.in-Ok.ensures.sought in
    let t : known g.K.Key.order keys k ≡ true = known_some g.K.Key.order keys k n found in
    let with' = sym (with_known g.K.Key.order keys k t) in
    record {
      number = found;
      within = omega (arith, number_within g.K.Key.order keys k n found, long_keys pool g.K.Key.meaning ps);
      keys = with';
      series = series_more g.K.Key.order g.met.K.Key.orders keys keys k with';
      once = once g.K.Key.order g.met.K.Key.orders keys (places_of (in_use pool)) (found_out c.requires.sound).ordered;
      marks = rw t refl;
      used = rw t refl;
      grows = omega arith;
      same = λ _. refl;
      elsewhere = λ i d h. refl;
      long = refl;
      lent = refl;
      sound = c.requires.sound;
      stored = rw t refl;
      parts_used = rw t refl;
      parts_grows = omega arith;
      parts_same = λ _. refl;
      parts_elsewhere = λ i d h. refl;
      parts_long = refl;
      parts_lent = refl;
    }

pub returns-in-Err : goal.returns-in-Err
returns-in-Err g c =
    let old = c.args.self.now in
    let new = c.put.new.self in
    let parts = c.args.parts.now in
    let parts' = c.store-from.new.self in
    let ps = stored parts in
    let own = c.args.own.now in
    let order = g.K.Key.order in
    let laws = g.met.K.Key.orders in
    let meaning = g.K.Key.meaning in
    let k = meaning c.args.key own in
    let keys = pool_keys meaning ps old in
    let slot = c.in-Err.slot in
    let key = c.moved-moved.result in
    let m = c.args.marks in
    let s : Sought order g.K.Number.Number.number keys (places_of (in_use old)) k (Err slot) = subst (λ l. Sought order g.K.Number.Number.number (pool_keys meaning l old) (places_of (in_use old)) k (Err slot)) c.stored.ensures.stored c.in-Err.ensures.sought in
    let u : known order keys k ≡ false = unknown order laws keys (places_of (in_use old)) (found_out c.requires.sound).ordered k slot s.0 s.1 s.2 in
    let upto : slot ≤ old.used = omega (arith, long_places old, s.0) in
    let room : old.used < length (entries_of old) = c.requires.room u in
    let q : stored parts' ≡ ps ++ own = c.store-from.ensures.stored in
    let long : length ps ≡ parts.used = length-take-le parts.used (parts_of parts) c.args.parts.now.within in
    let means : meaning key (ps ++ own) ≡ k = c.moved-moved.ensures.meaning ps own (long ∙ sym c.store-from.ensures.from) c.requires.own in
    let far : g.K.Key.reach key ≤ length (ps ++ own) = omega (arith, c.moved-moved.ensures.reach, length-append ps own, long, c.store-from.ensures.from, c.requires.own) in
    let push : pool_keys meaning (stored parts') new ≡ keys ++ k ∷ [] = ap (λ l. pool_keys meaning l new) q ∙ stored_keys order meaning g.K.Key.reach g.met.K.Key.stays ps own laws slot key m k old new upto room c.put.ensures.used c.put.ensures.added means (found_out c.requires.sound) in
    let with' = push ∙ sym (with_unknown order keys k u) in
    let sound : FindableIn order meaning g.K.Key.reach (stored parts') (in_use new) = subst (λ l. FindableIn order meaning g.K.Key.reach l (in_use new)) (sym q) (stored_sound order meaning g.K.Key.reach g.met.K.Key.stays ps own laws slot key m k old new upto room c.put.ensures.used c.put.ensures.added means (found_out c.requires.sound) s.0 s.1 s.2 far) in
    record {
      number = ap (λ l. number_in order l k) push ∙ number_pushed order laws keys (places_of (in_use old)) (found_out c.requires.sound).ordered k slot s.0 s.1 s.2 ∙ ap (λ (n : ℕ). Some n) (long_keys old meaning ps ∙ sym c.put.ensures.number);
      within = omega (arith, c.put.ensures.number, c.put.ensures.used);
      keys = with';
      series = series_more order laws keys (pool_keys meaning (stored parts') new) k with';
      once = once order laws (pool_keys meaning (stored parts') new) (places_of (in_use new)) sound.ordered;
      marks = rw u (pool_marks_push slot key m old new upto room c.put.ensures.used c.put.ensures.added);
      used = rw u c.put.ensures.used;
      grows = omega (arith, c.put.ensures.used);
      same = λ t. absurd (both_ways (known order keys k) u t);
      elsewhere = λ i d h. c.put.ensures.added.elsewhere i d (omega (arith, c.put.ensures.used));
      long = c.put.ensures.added.long;
      lent = c.put.ensures.lent;
      sound = ∣ sound ∣₁;
      stored = rw u q;
      parts_used = rw u c.store-from.ensures.used;
      parts_grows = omega (arith, c.store-from.ensures.used);
      parts_same = λ t. absurd (both_ways (known order keys k) u t);
      parts_elsewhere = c.store-from.ensures.elsewhere;
      parts_long = c.store-from.ensures.long;
      parts_lent = c.store-from.ensures.lent;
    }
