use Rattle.std.proofs.Common.{◌≡◌, ℕ, List, [], ◌∷◌, ◌++◌, vec_items, vec_len, sym, ap, ◌∙◌, subst, arith}
use Rattle.layout.specs.Starts.{Begun}
use Rattle.layout.proofs.StartLaws.{begun_push}
use Rattle.layout.proofs.ast.Layout.concatenation.Goals as goal

pub invariant_of-self : goal.invariant_of-self
invariant_of-self c =
    let starts : List ℕ = vec_items c.self.inside.starts in
    let total : ℕ = vec_len c.self.inside.components in
    let is : vec_items c.push_reserved.new.self ≡ starts ++ total ∷ [] =
    c.push_reserved.ensures.items ∙ ap (λ (n : ℕ). starts ++ n ∷ []) c.len-end.ensures in (
      c.self.invariant.0,
      omega (arith, c.push_reserved.ensures.capacity, c.self.invariant.1),
      subst (λ (xs : List ℕ). Begun xs total) (sym is)
          (begun_push starts total c.self.invariant.2 (omega (arith, c.if-len-ge16.false, c.len.ensures, c.self.inside.starts.ok.0))),
    )
