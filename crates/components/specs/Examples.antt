-- Small cases of the definitions, each by computation.
use Rattle.std.specs.Prelude.{◌≡◌, true, false, [], ◌∷◌, ℤ, pos, negsuc, Some, None}
use Rattle.names.specs.declared.PName.{PName}
use Rattle.components.specs.declared.ranges.Usb.{Usb}
use Rattle.components.specs.declared.ranges.Usbr.{Usbr}
use Rattle.components.specs.declared.component.Component.{Component}
use Rattle.components.specs.declared.component.ComponentType.TheVariants.{Literal, Variable, Filler}
use Rattle.components.specs.declared.concatenation.FillerAlign.TheVariants.{Single, Lsb, Msb, Mid, Multiple}
use Rattle.components.specs.Ranges.{no_bounds, range_width, static_range, within}
use Rattle.components.specs.Parts.{fits_literal, fits_start, full_range}
use Rattle.components.specs.Concatenations.{certainly_wide, deterministic, of_static_width}
use Rattle.components.specs.Alignments.{alignment, overall}
use Rattle.components.specs.declared.concatenation.FillerAlign.TheVariants as align

-- a static bound, and one of x more than what name 7 stands for
abbrev pub fixed : ℤ → Usb PName
fixed n = record { s = None; x = n }

abbrev pub named : ℤ → Usb PName
named n = record { s = Some (record { 0 = 7 }); x = n }

-- ranges with both bounds, and with a start alone
abbrev pub between : Usb PName → Usb PName → Usbr PName
between from to = record { start = Some from; end = Some to }

abbrev pub onward : Usb PName → Usbr PName
onward from = record { start = Some from; end = None }

-- the literal 5 in 4 bits, variable 3 and a filler, each over a range
abbrev pub five : Usbr PName → Component PName
five r = record { c_type = Literal 4 5; range = r }

abbrev pub three : Usbr PName → Component PName
three r = record { c_type = Variable (record { 0 = 3 }); range = r }

abbrev pub gap : Usbr PName → Component PName
gap r = record { c_type = Filler; range = r }

abbrev pub open_gap : Component PName
open_gap = gap no_bounds

pub record ExamplesHold : Type 0 where
  -- bounds and ranges
  pub limit : within (fixed (pos 1000000)) ≡ true
  pub past_limit : within (fixed (pos 1000001)) ≡ false
  pub negative : within (fixed (negsuc 0)) ≡ false
  pub negative_named : within (named (negsuc 0)) ≡ true
  pub static_bounds : static_range (between (fixed (pos 2)) (fixed (pos 9))) ≡ Some (pos 2, pos 9)
  pub named_bounds : static_range (between (named (pos 2)) (named (pos 9))) ≡ None
  pub same_name : range_width (between (named (negsuc 1)) (named (pos 9))) ≡ Some 11
  pub other_text : range_width (between (fixed (pos 2)) (named (pos 9))) ≡ None
  pub backwards : range_width (between (fixed (pos 9)) (fixed (pos 2))) ≡ None
  -- components
  pub full : full_range (five (between (fixed (pos 0)) (fixed (pos 4)))) ≡ true
  pub not_full : full_range (five (between (fixed (pos 0)) (fixed (pos 3)))) ≡ false
  pub variable_full : full_range (three (onward (fixed (pos 0)))) ≡ true
  pub no_start : full_range (three no_bounds) ≡ false
  pub literal_fits : fits_literal (five (between (fixed (pos 0)) (fixed (pos 4)))) ≡ true
  pub literal_cut : fits_literal (five (between (fixed (pos 1)) (fixed (pos 4)))) ≡ false
  pub filler_start : fits_start open_gap ≡ true
  pub literal_start : fits_start (five no_bounds) ≡ false
  -- concatenations
  pub wide_enough : of_static_width (five (between (fixed (pos 0)) (fixed (pos 4))) ∷ gap (between (named (pos 0)) (named (pos 3))) ∷ []) 7 ≡ true
  pub gap_left : deterministic (open_gap ∷ five (onward (fixed (pos 0))) ∷ []) ≡ false
  pub certain : certainly_wide (open_gap ∷ three (onward (fixed (pos 0))) ∷ []) ≡ true
  pub below : alignment (open_gap ∷ five (onward (fixed (pos 0))) ∷ []) ≡ Msb
  pub on_top : alignment (five (onward (fixed (pos 0))) ∷ open_gap ∷ []) ≡ Lsb
  pub between_two : alignment (three (onward (fixed (pos 0))) ∷ open_gap ∷ five (onward (fixed (pos 0))) ∷ []) ≡ Mid
  pub alone : alignment (open_gap ∷ []) ≡ Single
  pub one_kind : overall (Single ∷ Lsb ∷ Lsb ∷ []) ≡ Lsb
  pub two_kinds : overall (Msb ∷ Single ∷ Lsb ∷ []) ≡ Multiple
  pub one_without : overall (Msb ∷ align.None ∷ Lsb ∷ []) ≡ align.None
