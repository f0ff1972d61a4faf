use Rattle.std.proofs.Common.{◌≡◌, ℕ, ◌<◌, List, length, Option, Vec, ap, ◌∙◌, arith}
use Rattle.std.proofs.lemmas.List.{with_items_is, take_all}
use Rattle.std.specs.Vec.{with_items}
use Rattle.std.specs.declared.alloc.Global.{Global}
use Rattle.host.specs.Spans.{laid, span_at}
use Rattle.host.specs.declared.spans.Span.{Span}
use Rattle.host.proofs.SpanLaws.{laid_order, laid_sound, noted, same_order, same_sound}
use Rattle.host.proofs.laying.Table+Vec+Option+Span.new.Goals as goal

-- what the table holds once the places are noted in its memory
places : (v : Vec (Option Span) Global) (noting : List (Option Span)) (room : ℕ) (ws : List ℕ) → length noting ≡ v.len → v.len ≡ length ws
    → ((k : ℕ) → k < length ws → span_at noting k ≡ span_at (laid room 0 ws) k) → (k : ℕ) → span_at (with_items v noting).items k ≡ span_at (laid room 0 ws) k
places v noting room ws l m h k =
    ap (λ (xs : List (Option Span)). span_at xs k) (with_items_is v noting l)
    ∙ noted room ws noting (length ws) (l ∙ m) h k
    ∙ ap (λ (xs : List ℕ). span_at (laid room 0 xs) k) (take_all (length ws) ws (omega arith))

pub invariant_of-result : goal.invariant_of-result
invariant_of-result c =
    let v = c.in_ok-spans.spans in
    let noting : List (Option Span) = c.lay.new.spans in
    let room : ℕ = c.args.room in
    let ws : List ℕ = c.args.widths.now in
    let m : v.len ≡ length ws = c.in_ok-spans.ensures.len in
    let l : length noting ≡ v.len = omega arith in
    let p = places v noting room ws l m (λ k h. c.lay.ensures.spans k (omega arith)) in
    record {
      sound = same_sound (with_items v noting).items (laid room 0 ws) p (laid_sound room 0 ws);
      ordered = same_order (with_items v noting).items (laid room 0 ws) p (laid_order room 0 ws);
    }

pub returns : goal.returns
returns c =
    let v = c.in_ok-spans.spans in
    let noting : List (Option Span) = c.lay.new.spans in
    let ws : List ℕ = c.args.widths.now in
    let m : v.len ≡ length ws = c.in_ok-spans.ensures.len in
    let l : length noting ≡ v.len = omega arith in
    record { spans = places v noting c.args.room ws l m (λ k h. c.lay.ensures.spans k (omega arith)) }
