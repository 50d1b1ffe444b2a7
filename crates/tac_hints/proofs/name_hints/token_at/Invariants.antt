use Rattle.std.proofs.Common.{◌≡◌, ℕ, List, drop}
use Rattle.tac_lines.specs.code.Views.{tokens_view}
use Rattle.tac_hints.specs.Names.{token_at}
use Rattle.tac_hints.proofs.name_hints.token_at.Given as goal

-- It is none of those so far.
abbrev pub invariant-loop-token : goal.invariant-loop-token
invariant-loop-token l = (text : List ℕ)
    → token_at (tokens_view text (drop l.token-index l.tokens)) l.place ≡ token_at (tokens_view text l.tokens) l.place
