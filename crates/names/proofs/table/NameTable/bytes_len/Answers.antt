use Rattle.std.proofs.Common.{sym}
use Rattle.names.proofs.Facts.{names_total}
use Rattle.names.proofs.table.NameTable.bytes_len.Goals as goal

pub returns : goal.returns
returns c = record { count = sym (names_total c.args.self.now); small = c.args.self.now.small }
