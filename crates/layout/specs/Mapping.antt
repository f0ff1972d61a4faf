-- Components with other things in the place of their texts.
use Rattle.std.specs.Option.{option_map}
use Rattle.components.specs.declared.ranges.Usb.{Usb}
use Rattle.components.specs.declared.ranges.Usbr.{Usbr}
use Rattle.components.specs.declared.component.Component.{Component}
use Rattle.components.specs.declared.component.ComponentType.{ComponentType}
use Rattle.components.specs.declared.component.ComponentType.TheVariants.{Literal, Variable, Filler}
-- the text of a variable, and the texts of a range's bounds
pub use Rattle.components.specs.Mapped.{bound_text, type_text}

-- a bound, a range, what a component is, and a component, with `f` of each text in the place of the text
abbrev pub map_bound : {A B : Type 0} → (A → B) → Usb A → Usb B
map_bound f b = record { s = option_map f b.s; x = b.x }

abbrev pub map_range : {A B : Type 0} → (A → B) → Usbr A → Usbr B
map_range f r = record { start = option_map (map_bound f) r.start; end = option_map (map_bound f) r.end }

abbrev pub map_type : {A B : Type 0} → (A → B) → ComponentType A → ComponentType B
map_type f (Literal width value) = Literal width value
map_type f (Variable text) = Variable (f text)
map_type f Filler = Filler

abbrev pub map_component : {A B : Type 0} → (A → B) → Component A → Component B
map_component f c = record { c_type = map_type f c.c_type; range = map_range f c.range }
