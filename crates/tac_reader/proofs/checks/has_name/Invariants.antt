use Rattle.std.proofs.Common.{◌≡◌, drop}
use Rattle.tac_program.specs.Names.{is_one_of}
use Rattle.tac_reader.specs.Parses.{names_in}
use Rattle.tac_lines.specs.code.Views.{tokens_view}
use Rattle.tac_reader.proofs.checks.has_name.Given as goal

-- The name is not among those so far.
abbrev pub invariant-loop-token : goal.invariant-loop-token
invariant-loop-token l =
    is_one_of l.name (names_in (tokens_view l.text (drop l.token-index l.tokens))) ≡ is_one_of l.name (names_in (tokens_view l.text l.tokens))
