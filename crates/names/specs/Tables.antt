-- The names of a table.
use Rattle.std.specs.Prelude.{ℕ, List, vec_items}
use Rattle.names.specs.declared.table.NameTable.{NameTable}
use Rattle.names.specs.Names.{names_in}

-- the texts in a table, by number
unfoldable pub names_of : NameTable → List (List ℕ)
names_of t = names_in (vec_items t.entries) t.used (vec_items t.bytes) t.stored
