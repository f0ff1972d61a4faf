use Rattle.std.proofs.Common.{ℕ, List, vec_items, Option, ap, ◌∙◌, rules}
use Rattle.host.specs.Rows.{row_bit}
use Rattle.host.specs.Spans.{bit_at, width_at}
use Rattle.host.specs.declared.spans.Span.{Span}
use Rattle.host.proofs.SpanLaws.{part_inside, write_shows}
use Rattle.host.proofs.laying.LaidHost.write.Goals as goal

-- the part shows, and nothing else changes
pub returns-clause-bits : goal.returns-clause-bits
returns-clause-bits g c k i =
    let room : ℕ = g.S.Storage.room c.args.self.now.store in
    let spans : List (Option Span) = vec_items c.args.self.now.table.spans in
    let row : ℕ → ℕ = row_bit g.S.Storage.cell g.S.Storage.inner (g.S.Storage.cells c.args.self.now.store) in
    let row' : ℕ → ℕ = row_bit g.S.Storage.cell g.S.Storage.inner (g.S.Storage.cells c.put.new.self) in
    ap (λ (x : ℕ). bit_at x spans row' k i) c.put.ensures.room
    ∙ write_shows spans room c.args.offset c.args.count c.args.value c.args.name row row' c.args.self.now.table.ordered
    (part_inside (width_at room spans c.args.name) c.args.offset c.args.count (search rules)) (search rules) k i
