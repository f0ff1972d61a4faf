use Rattle.std.proofs.Common.{◌≡◌, ℕ, ◌+◌, Bool, cond, List, length, take, sym, ap, ◌∙◌, subst, ap₂, arith, rules}
use Rattle.pool.specs.Firsts.{known, number_in, with_key}
use Rattle.pool.specs.Held.{keys_of, SoundIn}
use Rattle.pool.specs.Pools.{entries_of, in_use}
use Rattle.pool.specs.Stored.{parts_of, stored}
use Rattle.pool.specs.Words.{by_word}
use Rattle.names.specs.Inserted.{Inserted}
use Rattle.names.specs.Names.{names_in, text_in, text_end}
use Rattle.names.proofs.Texts.{inserted_over}
use Rattle.names.proofs.intern.intern.Goals as goal

pub insert_stored-name-requires : goal.insert_stored-name-requires
insert_stored-name-requires c =
    let text = c.args.text.now in
    let key = c.whole.result in
    let whole = c.whole.ensures.all in
    let pool = c.resumed-pool.result in
    let parts = c.resumed-parts.result in
    let before = names_in c.args.entries.now c.args.used.now c.args.bytes.now c.args.stored.now in
    let es = c.resumed-pool.ensures.in_use in
    let ps = c.resumed-parts.ensures.stored in
    let keys : keys_of text_in (stored parts) (in_use pool) ≡ before = ap₂ (λ (l : List ℕ) m. keys_of text_in l m) ps es in
    let k : known by_word (keys_of text_in (stored parts) (in_use pool)) (text_in key text) ≡ known by_word before text = ap₂ (λ (l : List (List ℕ)) (t : List ℕ). known by_word l t) keys whole in
    record {
      sound = subst (λ l. SoundIn by_word text_in text_end l (in_use pool)) (sym ps) (subst (λ l. SoundIn by_word text_in text_end (take c.args.stored.now c.args.bytes.now) l) (sym es) c.requires.sound);
      own = omega (arith, c.whole.ensures.end);
      room = λ u. omega (arith, c.requires.entries_room (sym k ∙ u), ap length c.resumed-pool.ensures.same, c.resumed-pool.ensures.used);
      parts_room = λ u. omega (arith, c.requires.bytes_room (sym k ∙ u), ap length c.resumed-parts.ensures.same, c.resumed-parts.ensures.used);
    }

pub returns : goal.returns
returns c =
    let text = c.args.text.now in
    let key = c.whole.result in
    let whole = c.whole.ensures.all in
    let pool = c.insert_stored-name.new.self in
    let parts = c.insert_stored-name.new.parts in
    let old = c.resumed-pool.result in
    let older = c.resumed-parts.result in
    let used = c.len.result in
    let held = c.len-2.result in
    let before = names_in c.args.entries.now c.args.used.now c.args.bytes.now c.args.stored.now in
    let e = c.insert_stored-name.ensures in
    let eu = c.len.ensures.used in
    let es = c.len-2.ensures.used in
    let keys : keys_of text_in (stored older) (in_use old) ≡ before = ap₂ (λ (l : List ℕ) m. keys_of text_in l m) c.resumed-parts.ensures.stored c.resumed-pool.ensures.in_use in
    let now' : names_in (entries_of pool) used (parts_of parts) held ≡ keys_of text_in (stored parts) (in_use pool) = ap₂ (λ (u s : ℕ). names_in (entries_of pool) u (parts_of parts) s) eu es in
    let k : known by_word (keys_of text_in (stored older) (in_use old)) (text_in key text) ≡ known by_word before text = ap₂ (λ (l : List (List ℕ)) (t : List ℕ). known by_word l t) keys whole in
    let left : Inserted before c.args.stored.now text c.insert_stored-name.result used held (entries_of pool) (parts_of parts) = record {
      names = now' ∙ e.keys ∙ ap₂ (λ (l : List (List ℕ)) (t : List ℕ). with_key by_word l t) keys whole;
      number = ap₂ (λ (l : List (List ℕ)) (t : List ℕ). number_in by_word l t) now' (sym whole) ∙ e.number;
      counted = es ∙ e.parts_used ∙ ap₂ (λ (b : Bool) (n : ℕ). cond b n (n + length text)) k c.resumed-parts.ensures.used;
      sound = subst (λ (n : ℕ). SoundIn by_word text_in text_end (take n (parts_of parts)) (take used (entries_of pool))) (sym es) (subst (λ (n : ℕ). SoundIn by_word text_in text_end (stored parts) (take n (entries_of pool))) (sym eu) e.sound);
      few = omega (arith, eu, pool.within);
      small = omega (arith, es, parts.within, parts.small);
    } in
    record { inserted = inserted_over _ _ _ _ _ _ _ _ _ _ (search rules) (search rules) left }
