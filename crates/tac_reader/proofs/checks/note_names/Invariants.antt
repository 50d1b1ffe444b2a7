use Rattle.std.proofs.Common.{◌≡◌, ◌++◌, drop}
use Rattle.tac_reader.specs.Faults.{repeated}
use Rattle.tac_reader.specs.Parses.{names_in}
use Rattle.tac_lines.specs.code.Views.{tokens_view}
use Rattle.tac_reader.proofs.checks.note_names.Given as goal

-- The names of the rest are to come, and the faults are the rest's.
abbrev pub invariant-loop-token : goal.invariant-loop-token
invariant-loop-token l = record {
  names : l.names ++ names_in (tokens_view l.text (drop l.token-index l.tokens)) ≡ l.fn.names ++ names_in (tokens_view l.text l.tokens);
  faults : repeated l.kind l.names (tokens_view l.text (drop l.token-index l.tokens)) ≡ repeated l.kind l.fn.names (tokens_view l.text l.tokens);
}
