-- What the keys of the four pools mean, and how they are ordered: by a list of numbers that spells them, no two alike.
use Rattle.std.specs.Prelude.{ℕ, List, [], ◌∷◌, ◌++◌, ℤ, pos, negsuc}
use Rattle.std.specs.declared.cmp.Ordering.{Ordering}
use Rattle.pool.specs.Words.{by_word}
use Rattle.pool.specs.declared.runs.Run.{Run}
use Rattle.pool.specs.Runs.{run_of, run_end}
use Rattle.lower.specs.declared.keys.Bind.{Bind}
use Rattle.lower.specs.declared.keys.Bind.TheVariants.{Literal, Txt}
use Rattle.lower.specs.declared.keys.Base.{Base}
use Rattle.lower.specs.declared.keys.Base.TheVariants.{Nothing, Named, Asked}
use Rattle.lower.specs.declared.keys.Value.{Value}
use Rattle.lower.specs.declared.keys.Value.TheVariants.{Bitwidth, Usize}
use Rattle.lower.specs.declared.keys.Width.{Width}
use Rattle.lower.specs.declared.keys.Width.TheVariants.{Single, Range}

-- a binding is a literal, with a width and a value, or a variable, with its text
pub data Binding : Type 0 where
  literal : ℕ → ℕ → Binding
  variable : List ℕ → Binding

-- literals by width and value, and then variables by their text
abbrev pub spell_binding : Binding → List ℕ
spell_binding (literal width value) = 0 ∷ width ∷ value ∷ []
spell_binding (variable text) = 1 ∷ text

abbrev pub by_binding : Binding → Binding → Ordering
by_binding x y = by_word (spell_binding x) (spell_binding y)

-- what a bound starts from: nothing, the number that its text names, or the width of a binding for which its text asks
pub data Start : Type 0 where
  nothing : Start
  named : List ℕ → Start
  asked : ℕ → Start

-- a value is the width of a binding, or a start plus x
pub data Worth : Type 0 where
  width_of : ℕ → Worth
  plus : ℤ → Start → Worth

-- a signed number: those below zero first
abbrev pub spell_signed : ℤ → List ℕ
spell_signed (pos n) = 1 ∷ n ∷ []
spell_signed (negsuc n) = 0 ∷ n ∷ []

abbrev pub by_signed : ℤ → ℤ → Ordering
by_signed x y = by_word (spell_signed x) (spell_signed y)

abbrev pub spell_start : Start → List ℕ
spell_start nothing = 0 ∷ []
spell_start (named text) = 1 ∷ text
spell_start (asked binding) = 2 ∷ binding ∷ []

-- widths of bindings by binding, and then the others by x and by what they start from
abbrev pub spell_worth : Worth → List ℕ
spell_worth (width_of binding) = 0 ∷ binding ∷ []
spell_worth (plus x start) = 1 ∷ (spell_signed x ++ spell_start start)

abbrev pub by_worth : Worth → Worth → Ordering
by_worth x y = by_word (spell_worth x) (spell_worth y)

-- a width is an end, with or without a start
pub data Extent : Type 0 where
  whole : ℕ → Extent
  between : ℕ → ℕ → Extent

abbrev pub spell_extent : Extent → List ℕ
spell_extent (whole end) = 0 ∷ end ∷ []
spell_extent (between start end) = 1 ∷ start ∷ end ∷ []

abbrev pub by_extent : Extent → Extent → Ordering
by_extent x y = by_word (spell_extent x) (spell_extent y)

-- what the keys mean over the bytes of texts, and how many of these they need
abbrev pub text_in : Run → List ℕ → List ℕ
text_in text bytes = run_of text bytes

abbrev pub binding_of : Bind → List ℕ → Binding
binding_of (Literal width value) bytes = literal width value
binding_of (Txt text) bytes = variable (text_in text bytes)

abbrev pub binding_reach : Bind → ℕ
binding_reach (Literal width value) = 0
binding_reach (Txt text) = run_end text

abbrev pub start_of : Base → List ℕ → Start
start_of Nothing bytes = nothing
start_of (Named text) bytes = named (text_in text bytes)
start_of (Asked binding) bytes = asked binding.0

abbrev pub start_reach : Base → ℕ
start_reach Nothing = 0
start_reach (Named text) = run_end text
start_reach (Asked binding) = 0

abbrev pub worth_of : Value → List ℕ → Worth
worth_of (Bitwidth binding) bytes = width_of binding.0
worth_of (Usize base x) bytes = plus x (start_of base bytes)

abbrev pub worth_reach : Value → ℕ
worth_reach (Bitwidth binding) = 0
worth_reach (Usize base x) = start_reach base

abbrev pub extent_of : Width → Extent
extent_of (Single end) = whole end.0
extent_of (Range start end) = between start.0 end.0
