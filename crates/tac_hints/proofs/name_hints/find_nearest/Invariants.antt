use Rattle.std.proofs.Common.{◌≡◌, drop}
use Rattle.tac_lines.specs.code.Views.{tokens_view}
use Rattle.tac_hints.specs.Names.{nearest}
use Rattle.tac_hints.proofs.name_hints.find_nearest.Given as goal

-- It is none of those so far.
abbrev pub invariant-loop-token : goal.invariant-loop-token
invariant-loop-token l = nearest l.name (tokens_view l.text (drop l.token-index l.tokens)) ≡ nearest l.name (tokens_view l.text l.tokens)
