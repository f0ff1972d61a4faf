-- Components: what they are, and which part of it they take.
use Rattle.std.specs.Prelude.{ℕ, ◌^◌, Bool, true, false, cond, not, ◌&&◌, ◌||◌, is_some, Some, None, Option, nat_le, nat_lt}
use Rattle.components.specs.declared.ranges.Usb.{Usb}
use Rattle.components.specs.declared.component.Component.{Component}
use Rattle.components.specs.declared.component.ComponentType.{ComponentType}
use Rattle.components.specs.declared.component.ComponentType.TheVariants.{Literal, Variable, Filler}
use Rattle.components.specs.Ranges.{guaranteed_zero, static_at, static_range}

abbrev pub is_filler : {T : Type 0} → ComponentType T → Bool
is_filler (Literal width value) = false
is_filler (Variable name) = false
is_filler Filler = true

abbrev pub is_literal : {T : Type 0} → ComponentType T → Bool
is_literal (Literal width value) = true
is_literal (Variable name) = false
is_literal Filler = false

-- a filler, with or without end
abbrev pub filler : {T : Type 0} → Component T → Bool
filler c = is_filler c.c_type

-- a filler without end
abbrev pub unbounded_filler : {T : Type 0} → Component T → Bool
unbounded_filler c = filler c && not (is_some c.range.end)

-- a start that is there, and static 0
abbrev pub zero_start : {T : Type 0} → Option (Usb T) → Bool
zero_start None = false
zero_start (Some b) = guaranteed_zero b

-- an end that is absent, or static at this width
abbrev pub end_at : {T : Type 0} → ℕ → Option (Usb T) → Bool
end_at width None = true
end_at width (Some b) = static_at width b

-- the end of a full range: none of a variable, none or the width of a literal, and any of a filler
abbrev pub end_of_full : {T : Type 0} → ComponentType T → Option (Usb T) → Bool
end_of_full (Literal width value) end = end_at width end
end_of_full (Variable name) end = not (is_some end)
end_of_full Filler end = is_some end

abbrev pub full_end : {T : Type 0} → Component T → Bool
full_end c = end_of_full c.c_type c.range.end

-- a range from 0 that takes all of a literal or a variable, or that of a filler with an end
abbrev pub full_range : {T : Type 0} → Component T → Bool
full_range c = zero_start c.range.start && full_end c

-- a literal with both bounds there and static
abbrev pub static_literal : {T : Type 0} → Component T → Bool
static_literal c = is_literal c.c_type && is_some (static_range c.range)

-- the start is absent on a filler without end, and there on everything else
abbrev pub fits_start : {T : Type 0} → Component T → Bool
fits_start c = cond (unbounded_filler c) (not (is_some c.range.start)) (is_some c.range.start)

-- a width of 1 to 64 bits, and a value below 2^width
abbrev pub fits_bits : ℕ → ℕ → Bool
fits_bits width value = nat_le 1 width && nat_le width 64 && nat_lt value (2 ^ width)

-- the width and the value of a literal fit each other
abbrev pub fits_type : {T : Type 0} → ComponentType T → Bool
fits_type (Literal width value) = fits_bits width value
fits_type (Variable name) = true
fits_type Filler = true

-- no literal, or one that fits its width and that has a full range where both bounds are static
abbrev pub fits_literal : {T : Type 0} → Component T → Bool
fits_literal c = fits_type c.c_type && (not (static_literal c) || full_range c)
