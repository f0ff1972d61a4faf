use Rattle.std.proofs.Common.{◌≡◌, ℕ, ◌<◌, ◌≤◌, true, false, [], ◌∷◌, ◌++◌, length, Some, sym, refl, ap, ◌∙◌, arith}
use Rattle.std.proofs.lemmas.Bool.{both_ways}
use Rattle.pool.specs.Firsts.{known, number_in}
use Rattle.pool.specs.Held.{places_of}
use Rattle.pool.specs.Pools.{entries_of, in_use, pool_keys}
use Rattle.pool.proofs.Facts.{found_out}
use Rattle.pool.proofs.Firsts.{known_some, number_within, with_known, with_unknown, series_more}
use Rattle.pool.proofs.InUse.{long_keys, long_places}
use Rattle.pool.proofs.Insertion.{pool_keys_push, pool_marks_push, pool_sound_push}
use Rattle.pool.proofs.Pushed.{number_pushed, unknown}
use Rattle.pool.proofs.Slots.{once}
use Rattle.pool.proofs.pool.Pool.insert.Goals as goal

pub put-requires : goal.put-requires
put-requires g c =
    let pool = c.args.self.now in
    let k = g.K.Key.meaning c.args.key c.args.parts.now in
    let keys = pool_keys g.K.Key.meaning c.args.parts.now pool in
    let s = c.in-Err.ensures.sought in
    let u : known g.K.Key.order keys k ≡ false = unknown g.K.Key.order g.met.K.Key.orders keys (places_of (in_use pool)) (found_out c.requires.sound).ordered k c.in-Err.slot s.0 s.1 s.2 in
    record { slot = omega (arith, long_places pool, s.0); room = c.requires.room u }

pub returns-in-Ok : goal.returns-in-Ok
returns-in-Ok g c =
    let pool = c.args.self.now in
    let k = g.K.Key.meaning c.args.key c.args.parts.now in
    let keys = pool_keys g.K.Key.meaning c.args.parts.now pool in
    let found : number_in g.K.Key.order keys k ≡ Some (g.K.Number.Number.number c.in-Ok.number) = c.in-Ok.ensures.sought in
    let t : known g.K.Key.order keys k ≡ true = known_some g.K.Key.order keys k (g.K.Number.Number.number c.in-Ok.number) found in
    let with' = sym (with_known g.K.Key.order keys k t) in
    record {
      number = found;
      within = omega (arith, number_within g.K.Key.order keys k (g.K.Number.Number.number c.in-Ok.number) found, long_keys pool g.K.Key.meaning c.args.parts.now);
      keys = with';
      series = series_more g.K.Key.order g.met.K.Key.orders keys keys k with';
      once = once g.K.Key.order g.met.K.Key.orders keys (places_of (in_use pool)) (found_out c.requires.sound).ordered;
      marks = rw t refl;
      used = rw t refl;
      grows = omega arith;
      same = λ _. refl;
      elsewhere = λ i d h. refl;
      long = refl;
      lent = refl;
      sound = c.requires.sound;
    }

pub returns-in-Err : goal.returns-in-Err
returns-in-Err g c =
    let old = c.args.self.now in
    let new = c.put.new.self in
    let ps = c.args.parts.now in
    let order = g.K.Key.order in
    let laws = g.met.K.Key.orders in
    let meaning = g.K.Key.meaning in
    let k = meaning c.args.key ps in
    let keys = pool_keys meaning ps old in
    let s = c.in-Err.ensures.sought in
    let slot = c.in-Err.slot in
    let u : known order keys k ≡ false = unknown order laws keys (places_of (in_use old)) (found_out c.requires.sound).ordered k slot s.0 s.1 s.2 in
    let upto : slot ≤ old.used = omega (arith, long_places old, s.0) in
    let room : old.used < length (entries_of old) = c.requires.room u in
    let push : pool_keys meaning ps new ≡ keys ++ k ∷ [] = pool_keys_push slot c.args.key c.args.marks old new upto room c.put.ensures.used c.put.ensures.added meaning ps in
    let with' = push ∙ sym (with_unknown order keys k u) in
    let sound = pool_sound_push slot c.args.key c.args.marks old new upto room c.put.ensures.used c.put.ensures.added order laws meaning g.K.Key.reach ps (found_out c.requires.sound) s.0 s.1 s.2 c.requires.own in
    record {
      number = ap (λ l. number_in order l k) push ∙ number_pushed order laws keys (places_of (in_use old)) (found_out c.requires.sound).ordered k slot s.0 s.1 s.2 ∙ ap (λ (n : ℕ). Some n) (long_keys old meaning ps ∙ sym c.put.ensures.number);
      within = omega (arith, c.put.ensures.number, c.put.ensures.used);
      keys = with';
      series = series_more order laws keys (pool_keys meaning ps new) k with';
      once = once order laws (pool_keys meaning ps new) (places_of (in_use new)) sound.ordered;
      marks = rw u (pool_marks_push slot c.args.key c.args.marks old new upto room c.put.ensures.used c.put.ensures.added);
      used = rw u c.put.ensures.used;
      grows = omega (arith, c.put.ensures.used);
      same = λ t. absurd (both_ways (known order keys k) u t);
      elsewhere = λ i d h. c.put.ensures.added.elsewhere i d (omega (arith, c.put.ensures.used));
      long = c.put.ensures.added.long;
      lent = c.put.ensures.lent;
      sound = ∣ sound ∣₁;
    }
