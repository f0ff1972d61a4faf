use Rattle.std.proofs.Common.{◌≡◌, [], drop, vec_items}
use Rattle.lines.specs.declared.quotes.Part.TheVariants.{Plain}
use Rattle.lines.specs.Quotes.{quoted_from}
use Rattle.lines.proofs.quotes.unquote.Given as goal

abbrev pub invariant-loop-i : goal.invariant-loop-i
invariant-loop-i l = quoted_from Plain [] l.bytes ≡ quoted_from l.part (vec_items l.text) (drop l.i l.bytes)
