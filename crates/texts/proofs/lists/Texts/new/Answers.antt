use Rattle.std.proofs.Common.{◌≡◌, ℕ, ◌<◌, ◌≤◌, Bool, false, replicate, get_or, sym, ap, ◌∙◌, ⊎_elim, arith}
use Rattle.std.proofs.lemmas.Bool.{cases_lt}
use Rattle.std.proofs.lemmas.List.{get_or-replicate, get_or_past, length-replicate}
use Rattle.texts.specs.Tokens.{taken_in}
use Rattle.texts.proofs.lists.Texts.new.Goals as goal

-- in an array of one value, no index reads another
all_same : (n k : ℕ) (x : Bool) → get_or (replicate n x) k x ≡ x
all_same n k x =
    ⊎_elim
    (λ (l : k < n). get_or-replicate n k x x l)
    (λ (g : n ≤ k). get_or_past (replicate n x) k x (omega (arith, length-replicate n x)))
    (cases_lt k n)

pub invariant_of-result-clause-parents : goal.invariant_of-result-clause-parents
invariant_of-result-clause-parents c = λ k. all_same 256 k false ∙ sym (ap (taken_in k) c.in_ok-items.ensures.items)
