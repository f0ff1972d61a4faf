-- What holds of every table of names.
use Rattle.std.proofs.Common.{◌≡◌, ℕ, ◌<◌, ◌≤◌, List, [], length, get_or, take, vec_items, sym, ap, ◌∙◌, subst, ap₂, arith}
use Rattle.std.proofs.lemmas.List.{length-take-le}
use Rattle.pool.specs.declared.entry.Entry.{Entry}
use Rattle.pool.specs.Firsts.{Once}
use Rattle.pool.specs.Held.{places_of, SoundIn}
use Rattle.pool.specs.Words.{by_word}
use Rattle.pool.proofs.Entries.{length_keys, key_at}
use Rattle.pool.proofs.Facts.{found_out}
use Rattle.pool.proofs.Slots.{once}
use Rattle.pool.specs.WordOrder.{word_orders}
use Rattle.names.specs.declared.table.NameTable.{NameTable}
use Rattle.names.specs.Names.{Name, names_in, text_in, text_end, total}
use Rattle.names.specs.Tables.{names_of}

-- where names can be found, none stands twice
pub sound_once : (es : List (Entry Name (Unit {0}))) (used : ℕ) (bs : List ℕ) (stored : ℕ) → SoundIn by_word text_in text_end (take stored bs) (take used es) → Once by_word (names_in es used bs stored)
sound_once es used bs stored s = once by_word word_orders (names_in es used bs stored) (places_of (take used es)) (found_out s).ordered

module _ (t : NameTable) where
  -- the entries in use are as many as the table says
  pub entries_count : length (take t.used (vec_items t.entries)) ≡ t.used
  entries_count = length-take-le t.used (vec_items t.entries) (omega (arith, t.few, t.wide, t.entries.ok.0))

  -- each of them is a name
  pub names_count : length (names_of t) ≡ t.used
  unfolding names_of
  names_count = length_keys text_in (take t.stored (vec_items t.bytes)) (take t.used (vec_items t.entries)) ∙ entries_count

  -- the bytes in use are those of the names
  pub names_total : total (names_of t) ≡ t.stored
  unfolding names_of
  names_total = sym t.counted

  -- there is room for 256 names
  pub names_few : length (names_of t) ≤ 256
  names_few = omega (arith, names_count, t.few)

  -- and for 16,384 bytes
  pub names_small : total (names_of t) ≤ 16384
  names_small = subst (λ (n : ℕ). n ≤ 16384) (sym names_total) t.small

  -- no name stands twice
  pub names_once : Once by_word (names_of t)
  unfolding names_of
  names_once = sound_once (vec_items t.entries) t.used (vec_items t.bytes) t.stored t.sound

  -- what is read by number: `es` and `ps` are the entries and the bytes in use, as they are lent
  module _ (es : List (Entry Name (Unit {0}))) (ps : List ℕ) (e : es ≡ take t.used (vec_items t.entries)) (p : ps ≡ take t.stored (vec_items t.bytes)) (n : ℕ) (h : n < length (names_of t)) where
    -- the number is that of an entry in use
    pub entry_within : n < length es
    entry_within = omega (arith, names_count, entries_count, ap length e)

    -- the key of the entry lies within the bytes
    pub entry_end : (d : Entry Name (Unit {0})) → text_end (get_or es n d).key ≤ length ps
    entry_end d =
        subst (λ (l : List (Entry Name (Unit {0}))). text_end (get_or l n d).key ≤ length ps) (sym e)
        (subst (λ (l : List ℕ). text_end (get_or (take t.used (vec_items t.entries)) n d).key ≤ length l) (sym p)
        ((found_out t.sound).reached n d (omega (arith, names_count, entries_count))))

    -- and means the name
    pub entry_text : (d : Entry Name (Unit {0})) → text_in (get_or es n d).key ps ≡ get_or (names_of t) n []
    unfolding names_of
    entry_text d =
        ap₂ (λ (l : List (Entry Name (Unit {0}))) (m : List ℕ). text_in (get_or l n d).key m) e p
        ∙ sym (key_at text_in (take t.stored (vec_items t.bytes)) (take t.used (vec_items t.entries)) n d [] (omega (arith, names_count, entries_count)))
