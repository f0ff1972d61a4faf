-- A word that is read.
use Rattle.std.specs.Prelude.{ℕ, List, Option, Result}
use Rattle.std.specs.Option.{ok_or, option_and_then}
use Rattle.lines.specs.declared.faults.Misread.{Misread}
use Rattle.lines.specs.declared.faults.Misread.TheVariants.{Unreadable}

-- what a word spells: unreadable where there is no word, or where it spells nothing
abbrev pub read_by : {A : Type 0} → (List ℕ → Option A) → Option (List ℕ) → Result A Misread
read_by spells word = ok_or (option_and_then spells word) Unreadable
