use Rattle.names.specs.Tables.{names_of}
use Rattle.names.specs.declared.numbers.PName.{PName}
use Rattle.texts.specs.Flats.{flat_text}
use Rattle.layout.proofs.NewNames.{new_is}
use Rattle.layout.proofs.naming.is_unknown.Goals as goal

pub returns : goal.returns
returns c = record {
  answer = new_is (λ (n : PName). n.0) c.find.result (names_of c.args.names.now) c.as_slice.result.now (flat_text c.args.text.now) c.is_none.result c.is_none.ensures
      c.find.ensures.number c.as_slice.ensures.text;
}
