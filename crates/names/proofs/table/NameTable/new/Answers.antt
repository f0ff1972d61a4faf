use Rattle.std.proofs.Common.{[], refl, arith}
use Rattle.std.proofs.lemmas.Result.{IfOk-from_err}
use Rattle.pool.specs.Words.{by_word}
use Rattle.pool.proofs.Facts.{none_sound}
use Rattle.names.specs.Names.{text_in, text_end}
use Rattle.names.specs.Tables.{names_of}
use Rattle.names.proofs.table.NameTable.new.Goals as goal

pub returns-in_err-bytes : goal.returns-in_err-bytes
returns-in_err-bytes c = record { empty = IfOk-from_err _ _ c.from_residual-in_err-bytes.ensures.0 }

pub invariant_of-result : goal.invariant_of-result
invariant_of-result c = record {
  wide = c.in_ok-entries.ensures.len;
  long = c.in_ok-bytes.ensures.len;
  few = omega arith;
  small = omega arith;
  sound = none_sound by_word text_in text_end [];
  counted = refl;
}

pub returns : goal.returns
unfolding names_of
returns c = record { empty = refl }
