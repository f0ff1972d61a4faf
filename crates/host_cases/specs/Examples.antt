-- Worked examples of the definitions that hosts are proved against: each side is computed.
use Rattle.std.specs.Prelude.{◌≡◌, ℕ, [], ◌∷◌, Some, None, Option}
use Rattle.host.specs.Parts.{part_refusal}
use Rattle.host.specs.Refusals.{plain}
use Rattle.host.specs.Rows.{byte_bit, word_bit}
use Rattle.host.specs.Spans.{laid, lies, shown}
use Rattle.host.specs.declared.reasons.Reason.TheVariants.{NoSuchName, PartOutside}
use Rattle.host.specs.declared.spans.Span.{Span}

abbrev span : ℕ → ℕ → Option Span
span s w = Some (record { start = s; width = w })

-- in 64 bits: 0, 65,537 and 100 have no place, 20 and 44 fill the row, and nothing is left for 1
abbrev pub LaidInAWord : Type 0
LaidInAWord = laid 64 0 (0 ∷ 65537 ∷ 100 ∷ 20 ∷ 44 ∷ 1 ∷ []) ≡ (None ∷ None ∷ None ∷ span 0 20 ∷ span 20 44 ∷ None ∷ [])

-- the widest variable
abbrev pub Widest : Type 0
Widest = laid 65600 0 (65536 ∷ 65536 ∷ 64 ∷ []) ≡ (span 0 65536 ∷ None ∷ span 65536 64 ∷ [])

-- of a variable of 70 bits: 1 to 64 bits that end inside; none of a lacking one, whatever the part
abbrev pub PartsOfSeventy : Type 0
PartsOfSeventy =
    (part_refusal (Some 70) 6 64 ≡ None) × (part_refusal (Some 70) 7 64 ≡ Some (plain PartOutside)) × (part_refusal (Some 70) 0 0 ≡ Some (plain PartOutside))
    × (part_refusal (Some 70) 0 65 ≡ Some (plain PartOutside)) × (part_refusal (Some 70) 69 1 ≡ None) × (part_refusal None 0 0 ≡ Some (plain NoSuchName))

-- place 65 of the words 1 and 2 is bit 1 of the second; place 9 of the bytes 0x00 and 0x40 is the second highest bit of the second
abbrev pub Places : Type 0
Places =
    (word_bit (1 ∷ 2 ∷ []) 0 ≡ 1) × (word_bit (1 ∷ 2 ∷ []) 65 ≡ 1) × (word_bit (1 ∷ 2 ∷ []) 64 ≡ 0)
    × (byte_bit (0 ∷ 0x40 ∷ []) 9 ≡ 1) × (byte_bit (0 ∷ 0x40 ∷ []) 8 ≡ 0) × (byte_bit (1 ∷ 0 ∷ []) 7 ≡ 1)

-- bits 3 to 7 of a row of bytes as a variable: 0x1d is 00011101, and from place 3 on its bits are 1, 1, 1, 0, 1
abbrev pub Shown : Type 0
Shown =
    (shown (lies 8 (span 3 5)) (byte_bit (0x1d ∷ [])) 0 ≡ 1) × (shown (lies 8 (span 3 5)) (byte_bit (0x1d ∷ [])) 3 ≡ 0)
    × (shown (lies 8 (span 3 5)) (byte_bit (0x1d ∷ [])) 4 ≡ 1) × (shown (lies 8 (span 3 5)) (byte_bit (0x1d ∷ [])) 5 ≡ 0)
