-- What a lent slice of parts holds.
use Rattle.std.specs.Prelude.{List, take}
use Rattle.pool.specs.declared.parts.Parts.{Parts}

-- all parts that were lent
abbrev pub parts_of : {P : Type 0} → Parts P → List P
parts_of parts = parts.parts.now

-- the parts in use
abbrev pub stored : {P : Type 0} → Parts P → List P
stored parts = take parts.used (parts_of parts)
