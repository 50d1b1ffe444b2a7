use Rattle.std.proofs.Common.{◌≡◌, [], drop, take}
use Rattle.tac_reader.specs.Faults.{repeated}
use Rattle.tac_reader.specs.Parses.{names_in}
use Rattle.tac_lines.specs.code.Views.{tokens_view}
use Rattle.tac_reader.proofs.checks.first_repeated.Given as goal

-- The faults are the rest's, behind the names so far.
abbrev pub invariant-loop-at : goal.invariant-loop-at
invariant-loop-at l = repeated l.kind (names_in (tokens_view l.text (take l.at l.tokens))) (tokens_view l.text (drop l.at l.tokens))
    ≡ repeated l.kind [] (tokens_view l.text l.tokens)
