use Rattle.std.proofs.Common.{◌^◌, ◌<◌, length, get_or, sym, ◌∙◌, arith}
use Rattle.std.proofs.lemmas.Bool.Decides.{nat_tests}
use Rattle.lines.specs.Numbers.{below, digit_worth, grow}
use Rattle.lines.proofs.Worths.{below_lt, worth_more, worth_stuck, worth_all}
use Rattle.lines.proofs.numbers.in_base.Goals as goal

pub returns-in_err-value : goal.returns-in_err-value
returns-in_err-value c =
    record {
      value =
          c.from_residual.ensures
          ∙ sym (worth_stuck c.args.base c.loop-byte.value c.args.digits.now c.loop-byte.byte-index
          c.requires.base c.loop-byte-test.true c.loop-byte.invariant.1 (sym c.in_err-value.ensures.value));
    }

pub loop-byte-preserved : goal.loop-byte-preserved
loop-byte-preserved c = (
  below_lt (2 ^ 64) (grow c.args.base c.loop-byte.value (below c.args.base (digit_worth (get_or c.args.digits.now c.loop-byte.byte-index 0))))
      c.in_ok-value.value (sym c.in_ok-value.ensures.value),
  c.loop-byte.invariant.1
      ∙ worth_more c.args.base c.loop-byte.value c.in_ok-value.value c.args.digits.now c.loop-byte.byte-index
      c.loop-byte-test.true (sym c.in_ok-value.ensures.value),
)

pub returns-else-is_empty : goal.returns-else-is_empty
returns-else-is_empty c =
    let e = c.if-is_empty.ensures in
    let some : 0 < length c.args.digits.now = grind (arith, nat_tests) in
    record {
      value =
          sym (worth_all c.args.base c.loop-byte.value c.args.digits.now c.loop-byte.byte-index
          some c.loop-byte-test.false c.loop-byte.invariant.0 c.loop-byte.invariant.1);
    }
