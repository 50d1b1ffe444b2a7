use Rattle.std.proofs.Common.{◌∙◌, arith}
use Rattle.tac_lines.proofs.tokens.Values.{digit_step}
use Rattle.tac_lines.proofs.piece.number_value.Goals as goal

pub loop-digit-preserved : goal.loop-digit-preserved
loop-digit-preserved c = record {
  small = omega arith;
  rest =
      digit_step 9223372036854775808 c.loop-digit.value c.min-value.result c.args.digits.now c.loop-digit.digit-index c.loop-digit-test.true
      (omega arith)
      ∙ c.loop-digit.invariant.rest;
}
