-- Words of a line.
use Rattle.std.specs.Prelude.{ℕ, Bool, cond, ◌||◌, List, [], ◌∷◌, Some, None, Option, ◌==◌, count_by}

-- a blank: a space, a tab, or the carriage return before a line feed
abbrev pub blank : ℕ → Bool
blank c = c == 32 || c == 9 || c == 13

-- bytes from the first that is no blank on
abbrev pub after_blanks : List ℕ → List ℕ
after_blanks [] = []
after_blanks (c ∷ cs) = cond (blank c) (after_blanks cs) (c ∷ cs)

-- the bytes before the first blank
abbrev pub front : List ℕ → List ℕ
front [] = []
front (c ∷ cs) = cond (blank c) [] (c ∷ front cs)

-- the bytes from the first blank on
abbrev pub past : List ℕ → List ℕ
past [] = []
past (c ∷ cs) = cond (blank c) (c ∷ cs) (past cs)

-- a word, where it has a byte
abbrev pub unless_empty : List ℕ → Option (List ℕ)
unless_empty [] = None
unless_empty (c ∷ cs) = Some (c ∷ cs)

-- the first word of a line, if it has one, and what is left after it
abbrev pub first_word : List ℕ → Option (List ℕ)
first_word line = unless_empty (front (after_blanks line))

abbrev pub after_word : List ℕ → List ℕ
after_word line = past (after_blanks line)

-- how many commas there are
abbrev pub commas : List ℕ → ℕ
commas bytes = count_by (λ c. c == 44) bytes
