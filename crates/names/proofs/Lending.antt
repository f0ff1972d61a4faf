-- A table whose memory is lent to an insertion and comes back.
use Rattle.std.proofs.Common.{◌≡◌, ℕ, ◌+◌, ◌<◌, ◌≤◌, cond, List, length, take, vec_items, vec_len, sym, ap, ◌∙◌, subst, ap₂, arith}
use Rattle.std.proofs.lemmas.List.{with_items_is}
use Rattle.std.specs.Vec.{with_items}
use Rattle.pool.specs.declared.entry.Entry.{Entry}
use Rattle.pool.specs.Firsts.{known, Once}
use Rattle.pool.specs.Held.{SoundIn}
use Rattle.pool.specs.Words.{by_word}
use Rattle.pool.proofs.Firsts.{number_within}
use Rattle.names.specs.declared.numbers.PName.{PName}
use Rattle.names.specs.declared.table.NameTable.{NameTable}
use Rattle.names.specs.Inserted.{Inserted}
use Rattle.names.specs.Names.{Name, names_in, text_in, text_end, total, Grows}
use Rattle.names.specs.Tables.{names_of}
use Rattle.names.proofs.Facts.{names_total, sound_once}
use Rattle.names.proofs.Texts.{inserted_over, length_grows, total_grows, total_with}

-- the entries and bytes as they are lent hold the names of the table
pub lent_names : (t : NameTable) (es : List (Entry Name (Unit {0}))) (bs : List ℕ) → es ≡ vec_items t.entries → bs ≡ vec_items t.bytes → names_in es t.used bs t.stored ≡ names_of t
unfolding names_of
lent_names t es bs e b = ap₂ (λ (l : List (Entry Name (Unit {0}))) (m : List ℕ). names_in l t.used m t.stored) e b

-- and can be searched
pub lent_sound : (t : NameTable) (es : List (Entry Name (Unit {0}))) (bs : List ℕ) → es ≡ vec_items t.entries → bs ≡ vec_items t.bytes → SoundIn by_word text_in text_end (take t.stored bs) (take t.used es)
lent_sound t es bs e b =
    subst (λ (l : List ℕ). SoundIn by_word text_in text_end (take t.stored l) (take t.used es)) (sym b)
    (subst (λ (l : List (Entry Name (Unit {0}))). SoundIn by_word text_in text_end (take t.stored (vec_items t.bytes)) (take t.used l)) (sym e) t.sound)

-- the table `t`, of which `es` and `bs` were lent and came back as `fs` and `cs`
module _ (t : NameTable) (text : List ℕ) (name : PName) (used held : ℕ) (es fs : List (Entry Name (Unit {0}))) (bs cs : List ℕ) (e : es ≡ vec_items t.entries) (b : bs ≡ vec_items t.bytes) (fl : length fs ≡ vec_len t.entries) (cl : length cs ≡ vec_len t.bytes) (i : Inserted (names_in es t.used bs t.stored) t.stored text name used held fs cs) where
  pub after : Inserted (names_of t) t.stored text name used held (vec_items (with_items t.entries fs)) (vec_items (with_items t.bytes cs))
  after =
      inserted_over (names_of t) t.stored text name used held (vec_items (with_items t.entries fs)) fs (vec_items (with_items t.bytes cs)) cs (with_items_is t.entries fs fl) (with_items_is t.bytes cs cl)
      (subst (λ (l : List (List ℕ)). Inserted l t.stored text name used held fs cs) (lent_names t es bs e b) i)

  pub after_few : used ≤ 256
  after_few = omega (arith, i.few, fl, t.wide)

  pub after_small : held ≤ 16384
  after_small = omega (arith, i.small, cl, t.long)

  -- the bytes in use are still those of the names
  pub after_counted : held ≡ total (names_in (vec_items (with_items t.entries fs)) used (vec_items (with_items t.bytes cs)) held)
  after_counted =
      after.counted ∙ ap (λ (n : ℕ). cond (known by_word (names_of t) text) n (n + length text)) (sym (names_total t)) ∙ sym (total_with (names_of t) text)
      ∙ ap total (sym after.names)

  pub after_grows : Grows (length (names_of t)) 1 (length (names_in (vec_items (with_items t.entries fs)) used (vec_items (with_items t.bytes cs)) held))
  after_grows = subst (λ (l : List (List ℕ)). Grows (length (names_of t)) 1 (length l)) (sym after.names) (length_grows (names_of t) text)

  pub after_bytes : Grows (total (names_of t)) (length text) (total (names_in (vec_items (with_items t.entries fs)) used (vec_items (with_items t.bytes cs)) held))
  after_bytes = subst (λ (l : List (List ℕ)). Grows (total (names_of t)) (length text) (total l)) (sym after.names) (total_grows (names_of t) text)

  -- no name stands twice
  pub after_once : Once by_word (names_in (vec_items (with_items t.entries fs)) used (vec_items (with_items t.bytes cs)) held)
  after_once = sound_once (vec_items (with_items t.entries fs)) used (vec_items (with_items t.bytes cs)) held after.sound

  -- the number is that of a name
  pub after_within : name.0 < length (names_in (vec_items (with_items t.entries fs)) used (vec_items (with_items t.bytes cs)) held)
  after_within = number_within by_word (names_in (vec_items (with_items t.entries fs)) used (vec_items (with_items t.bytes cs)) held) text name.0 after.number
