use Rattle.std.proofs.Common.{◌≡◌, [], drop, fold}
use Rattle.tac_lines.specs.code.Views.{tokens_view}
use Rattle.tac_program.specs.Names.{noted}
use Rattle.tac_reader.specs.Parses.{names_in}
use Rattle.tac_faults.proofs.names.name_table.Given as goal

-- The names of the rest are still to be noted.
abbrev pub invariant-loop-token : goal.invariant-loop-token
invariant-loop-token l = fold noted l.names (names_in (tokens_view l.text (drop l.token-index l.tokens)))
    ≡ fold noted [] (names_in (tokens_view l.text l.tokens))
