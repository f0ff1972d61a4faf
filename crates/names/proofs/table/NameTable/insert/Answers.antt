use Rattle.std.proofs.Common.{ℕ, List, sym, ap, ◌∙◌, arith}
use Rattle.pool.specs.Firsts.{known}
use Rattle.pool.specs.Words.{by_word}
use Rattle.names.specs.Tables.{names_of}
use Rattle.names.proofs.Facts.{names_count, names_total}
use Rattle.names.proofs.Lending.{lent_names, lent_sound, after, after_few, after_small, after_counted, after_grows, after_bytes, after_once, after_within}
use Rattle.names.proofs.table.NameTable.insert.Goals as goal

pub intern-requires : goal.intern-requires
intern-requires c =
    let t = c.args.self.now in
    let es = c.deref_mut.ensures.value in
    let bs = c.deref_mut-2.ensures.value in
    let el = c.deref_mut.ensures.len in
    let bl = c.deref_mut-2.ensures.len in
    let k = ap (λ (l : List (List ℕ)). known by_word l c.args.text.now) (lent_names t c.deref_mut.result.now c.deref_mut-2.result.now es bs) in
    record {
      entries_fit = (omega (arith, t.few, el, t.wide), omega (arith, el, t.wide));
      bytes_fit = (omega (arith, t.small, bl, t.long), omega (arith, bl, t.long));
      sound = lent_sound t c.deref_mut.result.now c.deref_mut-2.result.now es bs;
      short = c.requires.short;
      entries_room = λ u. omega (arith, c.requires.room (sym k ∙ u), names_count t, el, t.wide);
      bytes_room = λ u. omega (arith, c.requires.bytes_room (sym k ∙ u), names_total t, bl, t.long);
    }

pub invariant_of-self : goal.invariant_of-self
invariant_of-self c =
    let t = c.args.self.now in
    let text = c.args.text.now in
    let n = c.intern.result in
    let u = c.intern.new.used in
    let h = c.intern.new.stored in
    let es = c.deref_mut.result.now in
    let fs = c.intern.new.entries in
    let bs = c.deref_mut-2.result.now in
    let cs = c.intern.new.bytes in
    let e = c.deref_mut.ensures.value in
    let b = c.deref_mut-2.ensures.value in
    let fl = c.intern.auto.entries ∙ c.deref_mut.ensures.len in
    let cl = c.intern.auto.bytes ∙ c.deref_mut-2.ensures.len in
    let i = c.intern.ensures.inserted in
    record {
      wide = t.wide;
      long = t.long;
      few = after_few t text n u h es fs bs cs e b fl cl i;
      small = after_small t text n u h es fs bs cs e b fl cl i;
      sound = (after t text n u h es fs bs cs e b fl cl i).sound;
      counted = after_counted t text n u h es fs bs cs e b fl cl i;
    }

pub returns : goal.returns
unfolding names_of
returns c =
    let t = c.args.self.now in
    let text = c.args.text.now in
    let n = c.intern.result in
    let u = c.intern.new.used in
    let h = c.intern.new.stored in
    let es = c.deref_mut.result.now in
    let fs = c.intern.new.entries in
    let bs = c.deref_mut-2.result.now in
    let cs = c.intern.new.bytes in
    let e = c.deref_mut.ensures.value in
    let b = c.deref_mut-2.ensures.value in
    let fl = c.intern.auto.entries ∙ c.deref_mut.ensures.len in
    let cl = c.intern.auto.bytes ∙ c.deref_mut-2.ensures.len in
    let i = c.intern.ensures.inserted in
    let a = after t text n u h es fs bs cs e b fl cl i in
    record {
      names = a.names;
      number = a.number;
      once = after_once t text n u h es fs bs cs e b fl cl i;
      grows = after_grows t text n u h es fs bs cs e b fl cl i;
      bytes_grow = after_bytes t text n u h es fs bs cs e b fl cl i;
      within = after_within t text n u h es fs bs cs e b fl cl i;
    }
