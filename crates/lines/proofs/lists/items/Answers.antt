use Rattle.std.proofs.Common.{◌≡◌, ◌+◌, ◌==◌, ◌∙◌, arith, rules, tests, count_by}
use Rattle.std.proofs.lemmas.List.Sorted.{answers_always}
use Rattle.lines.proofs.Parts.{IfOk-mono, seen}
use Rattle.lines.proofs.lists.items.Goals as goal

pub returns : goal.returns
returns g c =
    record {
      len = IfOk-mono c.try_collect.result _ _
          (λ v w.
          let p = w.0 in
          let m = c.map.ensures.runs p (seen p.len) w.1 in
          let q = m.0 in
          let s = c.split-parts.ensures.runs q (seen q.len) m.1 in
          let parts : q.len ≡ count_by (λ b. b == 44) c.args.word.now + 1 = (s.3 (λ b. b == 44) (answers_always _ _ _ (λ f a r h k. search (rules, tests)))).1 (m.2.0 ∙ w.2) in
          let made = w.3 (search rules) in
          omega (arith, made.1.1, made.2, m.2.1, parts))
          c.try_collect.ensures.runs;
    }
