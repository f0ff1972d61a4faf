-- Bounds, and the ranges between them.
use Rattle.std.specs.Prelude.{ℕ, Bool, true, false, cond, not, ◌&&◌, ℤ, pos, negsuc, ◌-ℤ◌, is_some, Some, None, Option, ◌==◌, int_le, unsigned_abs}
use Rattle.names.specs.declared.PName.{PName}
use Rattle.components.specs.declared.ranges.Usb.{Usb}
use Rattle.components.specs.declared.ranges.Usbr.{Usbr}

-- whether a signed number is this natural number
abbrev pub is_natural : ℕ → ℤ → Bool
is_natural n (pos m) = m == n
is_natural n (negsuc m) = false

-- a bound is static where it has no text
abbrev pub is_static : {T : Type 0} → Usb T → Bool
is_static b = not (is_some b.s)

-- the number that a static bound is
abbrev pub static_val : {T : Type 0} → Usb T → Option ℤ
static_val b = cond (is_static b) (Some b.x) None

-- a static bound that is this natural number
abbrev pub static_at : {T : Type 0} → ℕ → Usb T → Bool
static_at n b = is_static b && is_natural n b.x

-- a static bound that is 0
abbrev pub guaranteed_zero : {T : Type 0} → Usb T → Bool
guaranteed_zero b = static_at 0 b

-- x from -1,000,000 to 1,000,000, and not negative where the bound is static
abbrev pub within : {T : Type 0} → Usb T → Bool
within b = int_le (cond (is_static b) (pos 0) (negsuc 999999)) b.x && int_le b.x (pos 1000000)

-- a bound that is absent, or within the limits
abbrev pub bound_within : {T : Type 0} → Option (Usb T) → Bool
bound_within None = true
bound_within (Some b) = within b

-- the range that has neither bound
abbrev pub no_bounds : {T : Type 0} → Usbr T
no_bounds = record { start = None; end = None }

-- each bound that is there is within the limits
abbrev pub range_within : {T : Type 0} → Usbr T → Bool
range_within r = bound_within r.start && bound_within r.end

-- the number that a bound is, where it is there and static
abbrev pub static_bound : {T : Type 0} → Option (Usb T) → Option ℤ
static_bound None = None
static_bound (Some b) = static_val b

-- both numbers, where both are there
abbrev pub both_of : {A : Type 0} → Option A → Option A → Option (A × A)
both_of None o = None
both_of (Some a) None = None
both_of (Some a) (Some b) = Some (a, b)

-- the start and the end, where both are there and static
abbrev pub static_range : {T : Type 0} → Usbr T → Option (ℤ × ℤ)
static_range r = both_of (static_bound r.start) (static_bound r.end)

-- no text in either, or the same name in both
abbrev pub same_text : Option PName → Option PName → Bool
same_text None None = true
same_text None (Some b) = false
same_text (Some a) None = false
same_text (Some a) (Some b) = a.0 == b.0

-- how far the end lies past the start, where the texts are the same and the end is not below the start
abbrev pub width_between : Usb PName → Usb PName → Option ℕ
width_between from to =
    cond (same_text from.s to.s && int_le from.x to.x) (Some (unsigned_abs (to.x -ℤ from.x))) None

-- the width of a range, where both bounds are there and it is known from them
abbrev pub bounds_width : Option (Usb PName) → Option (Usb PName) → Option ℕ
bounds_width None to = None
bounds_width (Some from) None = None
bounds_width (Some from) (Some to) = width_between from to

abbrev pub range_width : Usbr PName → Option ℕ
range_width r = bounds_width r.start r.end
