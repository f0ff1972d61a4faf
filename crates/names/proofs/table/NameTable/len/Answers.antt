use Rattle.std.proofs.Common.{sym}
use Rattle.names.proofs.Facts.{names_count}
use Rattle.names.proofs.table.NameTable.len.Goals as goal

pub returns : goal.returns
returns c = record { count = sym (names_count c.args.self.now); few = c.args.self.now.few }
