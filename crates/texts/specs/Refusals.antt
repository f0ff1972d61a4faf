-- Refusals of the calls that describe a layout.
use Rattle.std.specs.Prelude.{ℕ, Some, None, Ok, Err, Option, Result}
use Rattle.texts.specs.declared.refusals.Refusal.{Refusal}
use Rattle.texts.specs.declared.refusals.Refusal.TheVariants.{UnfitStart, NoRoomForItem, WrongItem, WrongChild, NoRoomForPart, WrongStart, BoundOutside, SecondFiller, WrongLiteral, ReversedRange, WrongText, NamesFull, NothingThere, UntrueClaim, WrongInitial}

-- the number by which a refusal is known
abbrev pub number_of : Refusal → ℕ
number_of UnfitStart = 1
number_of NoRoomForItem = 2
number_of WrongItem = 3
number_of WrongChild = 4
number_of NoRoomForPart = 5
number_of WrongStart = 6
number_of BoundOutside = 7
number_of SecondFiller = 8
number_of WrongLiteral = 9
number_of ReversedRange = 10
number_of WrongText = 11
number_of NamesFull = 12
number_of NothingThere = 13
number_of UntrueClaim = 14
number_of WrongInitial = 15

-- how a call was refused, if it was
abbrev pub refusal : {X : Type 0} → Result X Refusal → Option Refusal
refusal (Ok x) = None
refusal (Err e) = Some e
