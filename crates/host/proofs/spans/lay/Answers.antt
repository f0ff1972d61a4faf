use Rattle.std.proofs.Common.{◌≡◌, ℕ, suc, ◌+◌, ◌<◌, ◌≤◌, cond, ◌≢◌, List, length, get_or, drop, set, is_some, None, sym, ap, ◌∙◌, subst, arith, below_more, rules}
use Rattle.std.proofs.lemmas.List.{get_or-set_same, get_or-set_other}
use Rattle.std.proofs.lemmas.Bool.{cond-true, cond-false}
use Rattle.host.specs.Spans.{fits, laid, placed, span_at}
use Rattle.host.proofs.SpanLaws.{is_some_placed, laid_head, laid_rest, taken}
use Rattle.host.proofs.spans.lay.Goals as goal
use Rattle.host.proofs.spans.lay.Goals.{then-is_some, else-is_some}

pub loop-i-preserved : goal.loop-i-preserved
loop-i-preserved c =
    let room : ℕ = c.args.room in
    let ws : List ℕ = c.args.widths.now in
    let at : ℕ = c.loop-i.at in
    let i : ℕ = c.loop-i.i in
    let w : ℕ = c.unwrap_or-width.result in
    let e : w ≡ get_or ws i 0 = search rules in
    let s : c.is_some.result ≡ fits room at w = c.is_some.ensures ∙ ap is_some c.place.ensures.answer ∙ is_some_placed room at w in
    let a : c.if-is_some.at ≡ at + cond (fits room at w) w 0 =
    elim c.if-is_some.branch [
      | then-is_some v ↦ v.at-is ∙ ap (λ (x : ℕ). at + x) (sym (cond-true (fits room at w) w 0 (sym s ∙ v.if-is_some.true)))
      | else-is_some v ↦ v.at-is ∙ omega (arith, cond-false (fits room at w) w 0 (sym s ∙ v.if-is_some.false))
    ] in
    let b : c.if-is_some.at ≡ at + cond (fits room at (get_or ws i 0)) (get_or ws i 0) 0 =
    a ∙ ap (λ (x : ℕ). at + cond (fits room at x) x 0) e in
    let lt : i < length c.loop-i.spans = omega arith in (
      subst (λ (x : ℕ). x ≤ room) (sym a) (taken room at w c.loop-i.invariant.0),
      below_more (λ k. span_at (set c.loop-i.spans i c.place.result) k ≡ span_at (laid room 0 ws) k) i
          (λ k h. let ne : k ≢ i = omega arith in
          get_or-set_other c.loop-i.spans i k c.place.result None ne ∙ c.loop-i.invariant.1 k h)
          (get_or-set_same c.loop-i.spans i c.place.result None lt ∙ c.place.ensures.answer
          ∙ ap (placed room at) e ∙ sym (laid_head room at ws i) ∙ c.loop-i.invariant.2 0
          ∙ ap (span_at (laid room 0 ws)) (omega arith)),
      λ k. ap (λ (x : ℕ). span_at (laid room x (drop (i + 1) ws)) k) b ∙ laid_rest room at ws i k ∙ c.loop-i.invariant.2 (suc k)
          ∙ ap (span_at (laid room 0 ws)) (omega arith),
    )
