use Rattle.std.proofs.Common.{ℕ, List, Option, ◌∙◌, arith}
use Rattle.std.specs.Option.{option_map}
use Rattle.names.specs.Tables.{names_of}
use Rattle.texts.specs.Flats.{flat_text}
use Rattle.layout.proofs.NewNames.{counted}
use Rattle.layout.proofs.naming.fits_with.Goals as goal

pub returns : goal.returns
returns c =
    let first : Option (List ℕ) = option_map (λ t. flat_text t.now) c.args.first in
    let second : Option (List ℕ) = option_map (λ t. flat_text t.now) c.args.second in
    let third : Option (List ℕ) = option_map (λ t. flat_text t.now) c.args.third in
    record {
      answer = c.fits.ensures.answer
          ∙ counted (names_of c.args.names.now) first second third c.with-all.result.names c.with-all.result.bytes _ _ _ _ _ _
          c.new_text.ensures.text c.new_text-2.ensures.text c.text_after.ensures.text c.new_text-3.ensures.text c.text_after-2.ensures.text c.text_after-3.ensures.text
          (omega (arith, c.with-all.ensures.names, c.with-two.ensures.names, c.with-one.ensures.names, c.len.ensures.count))
          (omega (arith, c.with-all.ensures.bytes, c.with-two.ensures.bytes, c.with-one.ensures.bytes, c.bytes_len.ensures.count));
    }
