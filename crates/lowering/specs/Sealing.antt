-- Whether a layout may be sealed.
use Rattle.std.specs.Prelude.{Option}
use Rattle.layout.specs.Claims.{seal_answer}
use Rattle.layout.specs.Layouts.{Described}
use Rattle.layout.specs.declared.claims.Claims.{Claims}
use Rattle.texts.specs.declared.refusals.Refusal.{Refusal}

-- how sealing with these claims is refused, if it is
abbrev pub claimed_answer : Described → Claims → Option Refusal
claimed_answer d c =
    seal_answer d c.returning c.initial c.nonzero c.common c.alignment c.concatenations.now
