-- What an insertion leaves.
use Rattle.std.specs.Prelude.{◌≡◌, ℕ, ◌+◌, ◌≤◌, cond, List, length, take, Some}
use Rattle.pool.specs.declared.entry.Entry.{Entry}
use Rattle.pool.specs.Firsts.{known, number_in, with_key}
use Rattle.pool.specs.Held.{SoundIn}
use Rattle.pool.specs.Words.{by_word}
use Rattle.names.specs.declared.numbers.PName.{PName}
use Rattle.names.specs.Names.{Name, names_in, text_in, text_end}

-- the text stands among the names, under the number, and an unknown one has its bytes behind those that were stored
pub record Inserted (before : List (List ℕ)) (stored : ℕ) (text : List ℕ) (name : PName) (used held : ℕ) (entries : List (Entry Name (Unit {0}))) (bytes : List ℕ) : Type 0 where
  pub names : names_in entries used bytes held ≡ with_key by_word before text
  pub number : number_in by_word (names_in entries used bytes held) text ≡ Some name.0
  pub counted : held ≡ cond (known by_word before text) stored (stored + length text)
  pub sound : SoundIn by_word text_in text_end (take held bytes) (take used entries)
  pub few : used ≤ length entries
  pub small : held ≤ length bytes
