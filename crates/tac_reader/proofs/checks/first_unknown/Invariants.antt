use Rattle.std.proofs.Common.{◌≡◌, List, drop}
use Rattle.tac_lines.specs.Tokens.{Token}
use Rattle.tac_reader.specs.Faults.{unknown}
use Rattle.tac_reader.specs.Parses.{names_in}
use Rattle.tac_lines.specs.code.Views.{tokens_view}
use Rattle.tac_reader.proofs.checks.first_unknown.Given as goal

-- The faults are the rest's.
abbrev pub invariant-loop-token : goal.invariant-loop-token
invariant-loop-token l = (known : List Token) → l.names ≡ names_in known
    → unknown l.kind known (tokens_view l.text (drop l.token-index l.tokens)) ≡ unknown l.kind known (tokens_view l.text l.tokens)
