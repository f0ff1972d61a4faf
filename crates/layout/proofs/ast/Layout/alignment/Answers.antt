use Rattle.std.proofs.Common.{rules, ◌≡◌, ℕ, refl, ap, ◌∙◌, arith}
use Rattle.std.proofs.lemmas.Iterator.{YieldsList-from_range}
use Rattle.std.proofs.lemmas.Iterator.Consumers.{fold_from_yields_List}
use Rattle.components.specs.Alignments.{alignment, overall, together}
use Rattle.components.specs.declared.concatenation.FillerAlign.{FillerAlign}
use Rattle.components.specs.declared.concatenation.FillerAlign.TheVariants.{Single}
use Rattle.layout.specs.Claims.{alignments}
use Rattle.layout.specs.Layouts.{Described, comps_at, concats}
use Rattle.layout.proofs.Walked.{overall_range}
use Rattle.layout.proofs.ast.Layout.alignment.Goals as goal

pub returns : goal.returns
returns c =
    let d : Described = c.args.self.now in
    let n : ℕ = c.count.result in
    let long : n ≡ concats d = c.count.ensures.answer in
    record {
      answer = fold_from_yields_List _ (λ (a : FillerAlign) (k : ℕ). together a (alignment (comps_at d k))) Single c.fold.result c.fold.ensures.ran (YieldsList-from_range 0 n n refl (omega arith)) (λ a x b q k. search rules)
          ∙ overall_range d n
          ∙ ap (λ (m : ℕ). overall (alignments d m)) long;
    }
