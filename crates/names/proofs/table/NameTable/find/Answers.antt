use Rattle.std.proofs.Common.{◌≡◌, ℕ, ◌<◌, List, length, IfSome, sym, ap, ◌∙◌, subst, ap₂, take, vec_items}
use Rattle.pool.specs.Firsts.{number_in}
use Rattle.pool.specs.Held.{keys_of}
use Rattle.pool.specs.Words.{by_word}
use Rattle.pool.specs.declared.entry.Entry.{Entry}
use Rattle.pool.specs.Held.{SoundIn}
use Rattle.names.specs.Names.{Name, text_in, text_end}
use Rattle.names.specs.Tables.{names_of}
use Rattle.names.proofs.Facts.{entries_count, names_count}
use Rattle.names.proofs.table.NameTable.find.Goals as goal

pub find_in-requires-clause-sound : goal.find_in-requires-clause-sound
find_in-requires-clause-sound c =
    let t = c.args.self.now in
    subst (λ (l : List ℕ). SoundIn by_word text_in text_end l c.entries_in_use.result.now) (sym c.bytes_in_use.ensures.bytes)
    (subst (λ (l : List (Entry Name (Unit {0}))). SoundIn by_word text_in text_end (take t.stored (vec_items t.bytes)) l) (sym c.entries_in_use.ensures.entries) t.sound)

pub returns : goal.returns
unfolding names_of
returns c =
    let t = c.args.self.now in
    let es = c.entries_in_use.ensures.entries in
    let keys : keys_of text_in c.bytes_in_use.result.now c.entries_in_use.result.now ≡ names_of t = ap₂ (λ (l : List ℕ) m. keys_of text_in l m) c.bytes_in_use.ensures.bytes es in
    let long : length c.entries_in_use.result.now ≡ length (names_of t) = ap length es ∙ entries_count t ∙ sym (names_count t) in
    record {
      number = c.find_in.ensures.number ∙ ap₂ (λ (l : List (List ℕ)) (k : List ℕ). number_in by_word l k) keys c.whole.ensures.all;
      within = subst (λ (n : ℕ). IfSome c.find_in.result (λ m. m.0 < n)) long c.find_in.ensures.within;
    }
