use Rattle.std.proofs.Common.{rules, ◌≡◌, ℕ, Bool, List, eqb, length, get_or, ap, ◌∙◌, eq-eqb, arith}
use Rattle.std.proofs.lemmas.Iterator.{YieldsList-from_slice}
use Rattle.std.proofs.lemmas.Iterator.Consumers.{YieldsList-from_enumerate}
use Rattle.std.proofs.lemmas.Iterator.Search.{all_from_yields_List}
use Rattle.layout.specs.Claims.{concat_true, every_below, no_claim}
use Rattle.layout.specs.Layouts.{Described, comps_at, concats}
use Rattle.layout.specs.declared.claims.ConcatClaim.{ConcatClaim}
use Rattle.layout.proofs.Walked.{every_numbered, within}
use Rattle.layout.proofs.ast.Layout.are_true.Goals as goal

pub returns-then-claims-count : goal.returns-then-claims-count
returns-then-claims-count c =
    let d : Described = c.args.self.now in
    let claims : List ConcatClaim = c.args.claims.now in
    let long : length claims ≡ concats d = omega (arith, c.if-claims-count.true, c.count.ensures.answer) in
    let test : ℕ → ConcatClaim → Bool = λ k claim. concat_true (comps_at d k) claim in
    let each : ℕ → Bool = λ k. test k (get_or claims k no_claim) in
    record {
      answer = all_from_yields_List (λ (p : ℕ × ConcatClaim). test p.0 p.1) _ _ c.all.result c.all.ensures.ran (YieldsList-from_enumerate (YieldsList-from_slice claims cc) cc) (λ x b q k. search rules)
          ∙ every_numbered test claims no_claim
          ∙ ap (every_below each) long
          ∙ within (eqb (length claims) (concats d)) (every_below each (concats d)) (eq-eqb (length claims) (concats d) long);
    }
