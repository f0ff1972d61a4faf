use Rattle.std.proofs.Common.{rules, ◌≡◌, ℕ, Bool, refl, ap, ◌∙◌, arith}
use Rattle.std.proofs.lemmas.Iterator.{YieldsList-from_range}
use Rattle.std.proofs.lemmas.Iterator.Search.{any_from_yields_List}
use Rattle.components.specs.Concatenations.{certainly_wide}
use Rattle.layout.specs.Claims.{some_below}
use Rattle.layout.specs.Layouts.{Described, comps_at, concats}
use Rattle.layout.proofs.Walked.{some_range}
use Rattle.layout.proofs.ast.Layout.has_bit.Goals as goal

pub returns : goal.returns
returns c =
    let d : Described = c.args.self.now in
    let n : ℕ = c.count.result in
    let long : n ≡ concats d = c.count.ensures.answer in
    let test : ℕ → Bool = λ k. certainly_wide (comps_at d k) in
    record {
      answer = any_from_yields_List test _ _ c.any.result c.any.ensures.ran (YieldsList-from_range 0 n n refl (omega arith)) (λ x b q k. search rules)
          ∙ some_range test n
          ∙ ap (some_below test) long;
    }
