-- What it means to carry a variable, or several, over from one host to another.
use Rattle.std.specs.Prelude.{◌≡◌, ℕ, ◌<◌, Bool, true, false, cond, ◌&&◌, ◌||◌, List, [], ◌∷◌, length, is_ok, Some, None, Ok, Err, Option, Result, ◌==◌, nat_le, nat_lt, slice_index_or}
use Rattle.host.specs.Parts.{size}
use Rattle.host.specs.Refusals.{plain}
use Rattle.host.specs.declared.reasons.Reason.TheVariants.{NoSuchName, PartOutside}
use Rattle.host.specs.declared.reasons.Refusal.{Refusal}
use Rattle.campaign.specs.declared.fields.Field.{Field}
use Rattle.campaign.specs.declared.fields.Field.TheVariants.{Chapter, Flags, Deck, Ada, Ben, Cleo}
use Rattle.campaign.specs.declared.packing.Stopped.{Stopped}

-- the width that is carried over, where both hosts have the variable and the second has room for it
abbrev pub shared : Option ℕ → Option ℕ → Result ℕ Refusal
shared None to = Err (plain NoSuchName)
shared (Some width) None = Err (plain NoSuchName)
shared (Some width) (Some room) = cond (nat_le width room) (Ok width) (Err (plain PartOutside))

-- the name number of a field
abbrev pub name_of : Field → ℕ
name_of Chapter = 0
name_of Flags = 1
name_of Deck = 2
name_of Ada = 3
name_of Ben = 4
name_of Cleo = 5

-- whether k is the name of one of these fields
abbrev pub named : ℕ → List Field → Bool
named k [] = false
named k (field ∷ fields) = k == name_of field || named k fields

-- the bits of all variables after the first `width` bits of the variable `name` were set to those of `source`, if that
-- was accepted: every other bit is as it was
abbrev pub Copied : Bool → ℕ → ℕ → (ℕ → ℕ) → (ℕ → ℕ → ℕ) → (ℕ → ℕ → ℕ) → Type 0
Copied accepted name width source old new =
    (k i : ℕ) → new k i ≡ cond (accepted && k == name && nat_lt i width) (source i) (old k i)

-- the bits of all variables after these fields were carried over from a host of these widths and bits, if that was accepted
abbrev pub Carried : Bool → List Field → (ℕ → Option ℕ) → (ℕ → ℕ → ℕ) → (ℕ → ℕ → ℕ) → (ℕ → ℕ → ℕ) → Type 0
Carried accepted fields widths source old new =
    (k i : ℕ) → new k i ≡ cond (accepted && named k fields && nat_lt i (size (widths k))) (source k i) (old k i)

-- each of these fields can be carried over, between hosts of these widths
abbrev pub AllShared : (ℕ → Option ℕ) → (ℕ → Option ℕ) → List Field → Type 0
AllShared from to fields =
    (j : ℕ) → j < length fields → is_ok (shared (from (name_of (slice_index_or fields j Chapter))) (to (name_of (slice_index_or fields j Chapter)))) ≡ true

-- whether fields can be carried over: all of them, or one stops it, by the refusal that is due to it
abbrev pub Judged : (ℕ → Option ℕ) → (ℕ → Option ℕ) → List Field → {X : Type 0} → Result X Stopped → Type 0
Judged from to fields (Ok x) = AllShared from to fields
Judged from to fields (Err stopped) = shared (from (name_of stopped.field)) (to (name_of stopped.field)) ≡ Err stopped.refusal
