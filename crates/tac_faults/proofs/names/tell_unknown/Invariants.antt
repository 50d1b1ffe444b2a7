use Rattle.std.proofs.Common.{◌≡◌, ◌++◌, List, drop, take}
use Rattle.tac_faults.specs.Listed.{most_found}
use Rattle.tac_lines.specs.Tokens.{Token}
use Rattle.tac_lines.specs.code.Views.{tokens_view}
use Rattle.tac_reader.specs.Faults.{unknown}
use Rattle.tac_reader.specs.Parses.{each_once, names_in}
use Rattle.tac_faults.proofs.names.tell_unknown.Given as goal

-- The faults so far and the rest's are all.
abbrev pub invariant-loop-token : goal.invariant-loop-token
invariant-loop-token l = (known : List Token) → l.names ≡ each_once (names_in known)
    → take most_found (l.found.items ++ unknown l.kind known (tokens_view l.text (drop l.token-index l.tokens)))
    ≡ take most_found (l.fn.found.items ++ unknown l.kind known (tokens_view l.text l.tokens))
