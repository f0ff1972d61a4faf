use Rattle.std.proofs.Common.{◌≡◌, ℕ, List, length, take, Option, arith}
use Rattle.host.specs.Spans.{laid}
use Rattle.host.specs.declared.spans.Span.{Span}
use Rattle.host.proofs.SpanLaws.{laid_order, laid_sound, noted, same_order, same_sound}
use Rattle.host.proofs.windows.Table+array+64+Option+Span.new.Goals as goal

pub invariant_of-result : goal.invariant_of-result
invariant_of-result c =
    let noting : List (Option Span) = c.lay.new.spans in
    let room : ℕ = c.args.room in
    let ws : List ℕ = take 64 c.args.widths.now in
    let l : length noting ≡ 64 = omega arith in
    let p = noted room c.args.widths.now noting 64 l c.lay.ensures.spans in
    record {
      sound = same_sound noting (laid room 0 ws) p (laid_sound room 0 ws);
      ordered = same_order noting (laid room 0 ws) p (laid_order room 0 ws);
    }

pub returns : goal.returns
returns c =
    let l : length c.lay.new.spans ≡ 64 = omega arith in
    record { spans = noted c.args.room c.args.widths.now c.lay.new.spans 64 l c.lay.ensures.spans }
