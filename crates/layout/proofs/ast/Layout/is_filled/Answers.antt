use Rattle.std.proofs.Common.{rules, ◌≡◌, ℕ, Bool, ltb, length, refl, ap, ◌∙◌, arith}
use Rattle.std.proofs.lemmas.Bool.{lt-ltb}
use Rattle.std.proofs.lemmas.Iterator.{YieldsList-from_range}
use Rattle.std.proofs.lemmas.Iterator.Search.{all_from_yields_List}
use Rattle.layout.specs.Claims.{every_below}
use Rattle.layout.specs.Layouts.{Described, comps_at, concats}
use Rattle.layout.proofs.Walked.{every_range, within}
use Rattle.layout.proofs.ast.Layout.is_filled.Goals as goal
use borrow.Author.Tests.{tests}

pub returns-then-count-gt0 : goal.returns-then-count-gt0
returns-then-count-gt0 c =
    let d : Described = c.args.self.now in
    let n : ℕ = c.count-then-count-gt0.result in
    let long : n ≡ concats d = c.count-then-count-gt0.ensures.answer in
    let test : ℕ → Bool = λ k. ltb 0 (length (comps_at d k)) in
    record {
      answer = all_from_yields_List test _ _ c.all.result c.all.ensures.ran (YieldsList-from_range 0 n n refl (omega arith)) (λ x b q k. search (rules, tests))
          ∙ every_range test n
          ∙ ap (every_below test) long
          ∙ within (ltb 0 (concats d)) (every_below test (concats d)) (lt-ltb 0 (concats d) (search (rules, tests)));
    }
