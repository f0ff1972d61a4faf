use Rattle.std.proofs.Common.{◌≡◌, ℕ, ◌<◌, true, cond, eqb, ltb, refl, ap, ◌∙◌, arith}
use Rattle.std.proofs.lemmas.Bool.{eqb-true, ltb-true}
use Rattle.bits.specs.Bit.{bit, lower, mirror, neighbour}
use Rattle.bits.proofs.BitLaws.{every, every_at}
use Rattle.bits.proofs.mirrored.Goals as goal

-- a mask marks the lower groups, by trying its 64 places
marks : (mask by : ℕ) → every (λ i. eqb (bit mask i) (cond (lower by i) 1 0)) 64 ≡ true → (i : ℕ) → i < 64 → bit mask i ≡ cond (lower by i) 1 0
marks mask by h i l = eqb-true (bit mask i) (cond (lower by i) 1 0) (every_at (λ i. eqb (bit mask i) (cond (lower by i) 1 0)) 64 i h l)

-- a neighbour is one of the 64 places too
stays : (by : ℕ) → every (λ i. ltb (neighbour by i) 64) 64 ≡ true → (i : ℕ) → i < 64 → neighbour by i < 64
stays by h i l = ltb-true (neighbour by i) 64 (every_at (λ i. ltb (neighbour by i) 64) 64 i h l)

three : (i : ℕ) → i < 64 → neighbour 1 (neighbour 2 (neighbour 4 i)) ≡ mirror i
three i l =
    eqb-true (neighbour 1 (neighbour 2 (neighbour 4 i))) (mirror i)
    (every_at (λ i. eqb (neighbour 1 (neighbour 2 (neighbour 4 i))) (mirror i)) 64 i refl l)

pub swapped-pairs-requires : goal.swapped-pairs-requires
unfolding bit
swapped-pairs-requires c = record { by = (omega arith, omega arith); mask = marks 0x5555_5555_5555_5555 1 refl }

pub swapped-nibbles-requires : goal.swapped-nibbles-requires
unfolding bit
swapped-nibbles-requires c = record { by = (omega arith, omega arith); mask = marks 0x3333_3333_3333_3333 2 refl }

pub swapped-requires : goal.swapped-requires
unfolding bit
swapped-requires c = record { by = (omega arith, omega arith); mask = marks 0x0f0f_0f0f_0f0f_0f0f 4 refl }

pub returns : goal.returns
returns c =
    record {
      bits = λ i h.
          let a : neighbour 4 i < 64 = stays 4 refl i h in
          let b : neighbour 2 (neighbour 4 i) < 64 = stays 2 refl (neighbour 4 i) a in
          c.swapped.ensures.bits i h ∙ c.swapped-nibbles.ensures.bits (neighbour 4 i) a
          ∙ c.swapped-pairs.ensures.bits (neighbour 2 (neighbour 4 i)) b ∙ ap (bit c.args.x) (three i h);
    }
