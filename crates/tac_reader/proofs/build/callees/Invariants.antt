use Rattle.std.proofs.Common.{◌≡◌, ◌≤◌, ◌++◌, map, drop, length}
use Rattle.tac_reader.specs.code.Built.{call_numbers}
use Rattle.tac_program.specs.Programs.{number_of}
use Rattle.tac_lines.specs.Tokens.{spelling_of}
use Rattle.tac_lines.specs.code.Views.{tokens_view}
use Rattle.tac_reader.proofs.build.callees.Given as goal

-- The numbers so far and those of the other callees are all; there are at most eight.
abbrev pub invariant-loop-token : goal.invariant-loop-token
invariant-loop-token l = record {
  count : length l.callees ≡ l.token-index;
  few : length l.token-items ≤ 8;
  rest : l.callees ++ map (λ t. number_of l.procedures (spelling_of t)) (tokens_view l.text (drop l.token-index l.token-items))
      ≡ call_numbers l.procedures (tokens_view l.text l.statement.tokens.now);
}
