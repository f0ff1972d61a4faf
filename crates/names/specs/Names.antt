-- What keys and entries say of names.
use Rattle.std.specs.Prelude.{ℕ, ◌+◌, ◌≤◌, List, [], ◌∷◌, length, take}
use Rattle.pool.specs.declared.entry.Entry.{Entry}
use Rattle.pool.specs.Held.{keys_of}
use Rattle.pool.specs.declared.runs.Word.{Word}
use Rattle.pool.specs.Runs.{run_of, run_end}
use Rattle.names.specs.declared.numbers.PName.{PName}

-- a name is a word of bytes
abbrev pub Name : Type 0
Name = Word ℕ PName

-- the text of a name over the bytes: its stretch of them
abbrev pub text_in : Name → List ℕ → List ℕ
text_in name bytes = run_of name.run bytes

-- where the text of a name ends among the bytes
abbrev pub text_end : Name → ℕ
text_end name = run_end name.run

-- the texts by number: those of the first `used` entries, over the first `stored` bytes
abbrev pub names_in : List (Entry Name (Unit {0})) → ℕ → List ℕ → ℕ → List (List ℕ)
names_in entries used bytes stored = keys_of text_in (take stored bytes) (take used entries)

-- a number after a step that adds at most `more`
abbrev pub Grows : ℕ → ℕ → ℕ → Type 0
Grows old more new = (old ≤ new) × (new ≤ old + more)

-- how many bytes texts have together
abbrev pub total : List (List ℕ) → ℕ
total [] = 0
total (text ∷ texts) = length text + total texts
