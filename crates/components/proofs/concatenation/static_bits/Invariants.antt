use Rattle.std.proofs.Common.{◌≡◌, ◌^◌, ◌<◌, true, sum_by, take}
use Rattle.components.specs.Concatenations.{all_of, bits_of, known_width}
use Rattle.components.proofs.concatenation.static_bits.Given as goal

-- each component so far has a static width, and these are summed
abbrev pub invariant-loop-comp : goal.invariant-loop-comp
invariant-loop-comp l =
    (l.sum ≡ sum_by bits_of (take l.comp-index l.comps)) × (all_of known_width (take l.comp-index l.comps) ≡ true) × (l.sum < 2 ^ 64)
