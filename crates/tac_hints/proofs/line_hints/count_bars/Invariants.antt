use Rattle.std.proofs.Common.{◌≡◌, ◌+◌, ◌≤◌, ℕ, List, codes, count_by, drop}
use Rattle.tac_lines.specs.Forms.{fills, key}
use Rattle.tac_lines.specs.Tokens.{Token}
use Rattle.tac_lines.specs.code.Views.{tokens_view}
use Rattle.tac_hints.proofs.line_hints.count_bars.Given as goal

-- The bars so far and those of the rest are all.
abbrev pub invariant-loop-at : goal.invariant-loop-at
invariant-loop-at l = record {
  few : l.count ≤ l.at;
  rest : (text : List ℕ) → l.count + count_by (λ (t : Token). fills (key (codes "|")) t.word) (tokens_view text (drop l.at l.tokens))
      ≡ count_by (λ (t : Token). fills (key (codes "|")) t.word) (tokens_view text l.tokens);
}
