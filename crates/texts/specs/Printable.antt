-- Bytes that a text may hold.
use Rattle.std.specs.Prelude.{ℕ, Bool, ◌&&◌, List, nat_le}
use Rattle.std.specs.List.{list_all}

-- a printable character of ASCII
abbrev pub printable : ℕ → Bool
printable byte = nat_le 32 byte && nat_le byte 126

abbrev pub every_printable : List ℕ → Bool
every_printable bytes = list_all printable bytes
