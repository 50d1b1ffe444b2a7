use Rattle.std.proofs.Common.{◌≡◌, ◌≤◌, drop, min}
use Rattle.tac_lines.specs.Tokens.{value_from, value_of}
use Rattle.tac_lines.proofs.piece.number_value.Given as goal

-- The value so far, as far as it counts, goes on to the value of all digits.
abbrev pub invariant-loop-digit : goal.invariant-loop-digit
invariant-loop-digit l = record {
  small : l.value ≤ 9223372036854775808;
  rest : min (value_from l.value (drop l.digit-index l.digits)) 9223372036854775808 ≡ value_of l.digits;
}
