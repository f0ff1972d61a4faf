use Rattle.std.proofs.Common.{ℕ, List, is_ok, Option, ap, ◌∙◌, rules}
use Rattle.host.specs.Parts.{size}
use Rattle.host.specs.Spans.{bit_at, width_at}
use Rattle.host.specs.declared.spans.Span.{Span}
use Rattle.host.proofs.SpanLaws.{part_had, write_seen}
use Rattle.host.proofs.windows.WindowHost.write.Goals as goal

-- the part shows if it was written, and nothing else changes
pub returns-clause-bits : goal.returns-clause-bits
returns-clause-bits g c k i =
    let shown : ℕ = c.args.self.now.name in
    let room : ℕ = size (g.H.Host.widths c.args.self.now.below shown) in
    let spans : List (Option Span) = c.args.self.now.table.spans in
    let row : ℕ → ℕ = g.H.Host.bits c.args.self.now.below shown in
    let row' : ℕ → ℕ = g.H.Host.bits c.write-written.new.self shown in
    ap (λ (x : Option ℕ). bit_at (size x) spans row' k i) (c.write-written.ensures.widths shown)
    ∙ write_seen (is_ok c.map_err.result) spans room c.args.offset c.args.count c.args.value c.args.name row row' c.args.self.now.table.ordered
    (part_had c.map_err.result (width_at room spans c.args.name) c.args.offset c.args.count (search rules)) (search rules) k i
