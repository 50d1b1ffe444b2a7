use Rattle.std.proofs.Common.{◌≡◌, ◌+◌, ℕ, List, drop, nat_lt}
use Rattle.std.specs.List.{prefix_len}
use Rattle.tac_lines.specs.Tokens.{Token}
use Rattle.tac_lines.specs.code.Views.{tokens_view}
use Rattle.tac_faults.proofs.places.count_before.Given as goal

-- All so far start before the place.
abbrev pub invariant-loop-at : goal.invariant-loop-at
invariant-loop-at l = (text : List ℕ) → l.at + prefix_len (λ (t : Token). nat_lt t.start l.place) (tokens_view text (drop l.at l.tokens))
    ≡ prefix_len (λ (t : Token). nat_lt t.start l.place) (tokens_view text l.tokens)
