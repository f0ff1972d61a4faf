-- Quoted strings.
use Rattle.std.specs.Prelude.{ℕ, ◌+◌, ◌*◌, ◌%◌, cond, ◌||◌, List, [], ◌∷◌, ◌++◌, Some, None, Option, ◌==◌, nat_lt}
use Rattle.lines.specs.Numbers.{digit_worth}
use Rattle.lines.specs.Words.{after_blanks, front}
use Rattle.lines.specs.declared.quotes.Part.{Part}
use Rattle.lines.specs.declared.quotes.Part.TheVariants.{Plain, Escape, High, Low}
use Rattle.lines.specs.declared.quotes.Step.{Step}
use Rattle.lines.specs.declared.quotes.Step.TheVariants.{Close, On, Whole}

-- a digit that `\x` needs, if it is one
abbrev pub digit_step : (ℕ → Step) → Option ℕ → Option Step
digit_step then None = None
digit_step then (Some d) = Some (then d)

-- what one more byte does, if it can stand there: `"` (34) ends the string, `\` (92) begins an escape, `x` (120) asks for
-- two digits, and any other byte below 128 stands for itself
abbrev pub step_of : Part → ℕ → Option Step
step_of Plain c = cond (c == 34) (Some Close) (cond (c == 92) (Some (On Escape)) (cond (nat_lt c 128) (Some (Whole c)) None))
step_of Escape c = cond (c == 34 || c == 92) (Some (Whole c)) (cond (c == 120) (Some (On High)) None)
step_of High c = digit_step (λ d. On (Low d)) (digit_worth c)
step_of (Low h) c = digit_step (λ d. Whole ((h * 16 + d) % 256)) (digit_worth c)

-- what a step leads to
abbrev pub by_step : Option Step → Option (List ℕ × List ℕ) → (Part → Option (List ℕ × List ℕ)) → (ℕ → Option (List ℕ × List ℕ)) → Option (List ℕ × List ℕ)
by_step None ended on whole = None
by_step (Some Close) ended on whole = ended
by_step (Some (On next)) ended on whole = on next
by_step (Some (Whole byte)) ended on whole = whole byte

-- what a quoted string says, and the bytes behind its closing quote; what it said so far stands in front
abbrev pub quoted_from : Part → List ℕ → List ℕ → Option (List ℕ × List ℕ)
quoted_from part text [] = None
quoted_from part text (c ∷ cs) =
    by_step (step_of part c) (Some (text, cs)) (λ next. quoted_from next text cs) (λ byte. quoted_from Plain (text ++ (byte ∷ [])) cs)

-- the second, where the first is empty
abbrev pub bare : List ℕ → Option (List ℕ × List ℕ) → Option (List ℕ × List ℕ)
bare [] found = found
bare (c ∷ cs) found = None

-- a quoted string is a word of its own: behind its closing quote the line ends, or a blank stands
abbrev pub alone : Option (List ℕ × List ℕ) → Option (List ℕ × List ℕ)
alone None = None
alone (Some (text, behind)) = bare (front behind) (Some (text, behind))

-- the quoted string that comes next in a line, behind its opening quote (34), and what stands behind it
abbrev pub opened : List ℕ → Option (List ℕ × List ℕ)
opened [] = None
opened (c ∷ cs) = cond (c == 34) (alone (quoted_from Plain [] cs)) None

abbrev pub quoted_word : List ℕ → Option (List ℕ × List ℕ)
quoted_word line = opened (after_blanks line)
