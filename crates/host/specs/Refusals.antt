-- Refusals by number and place.
use Rattle.std.specs.Prelude.{ℕ, Some, None, Ok, Err, Option, Result}
use Rattle.host.specs.declared.reasons.Reason.{Reason}
use Rattle.host.specs.declared.reasons.Reason.TheVariants.{NoSuchName, PartOutside}
use Rattle.host.specs.declared.reasons.Refusal.{Refusal}

-- the number by which a reason is known
abbrev pub number_of : Reason → ℕ
number_of NoSuchName = 23
number_of PartOutside = 24

-- a reason at place 0
abbrev pub plain : Reason → Refusal
plain r = record { reason = r; place = 0 }

-- how a call was refused, if it was
abbrev pub refusal : {X : Type 0} → Result X Refusal → Option Refusal
refusal (Ok x) = None
refusal (Err e) = Some e
