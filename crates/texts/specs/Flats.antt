-- Texts of limited length.
use Rattle.std.specs.Prelude.{ℕ, List, take}
use Rattle.texts.specs.declared.room.Bounded.{Bounded}

-- the text of a list, and that of an item
abbrev pub Flat : Type 0
Flat = Bounded 1024

abbrev pub ShortText : Type 0
ShortText = Bounded 60

-- the bytes of such a text
abbrev pub flat_text : {N : ℕ} → Bounded N → List ℕ
flat_text text = take text.len text.bytes
