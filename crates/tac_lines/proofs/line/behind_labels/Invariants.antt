use Rattle.std.proofs.Common.{◌≡◌, ℕ, ◌+◌, ◌-◌, ◌*◌, ◌<◌, ◌≤◌, List, drop, length, true}
use Rattle.tac_lines.specs.Forms.{behind_labels, forms_for, labels_of}
use Rattle.tac_lines.specs.code.Views.{tokens_view, line_forms}
use Rattle.tac_lines.proofs.line.behind_labels.Given as goal

-- Behind the labels so far stands what stands behind all of them.
abbrev pub invariant-loop-at : goal.invariant-loop-at
invariant-loop-at l = record {
  within : l.at ≤ length l.tokens;
  behind : (text : List ℕ) → behind_labels (tokens_view text (drop l.at l.tokens)) ≡ behind_labels (tokens_view text l.tokens);
  forms : (text : List ℕ) → 0 < l.at → forms_for true (labels_of (tokens_view text l.tokens)) ≡ line_forms true true;
  count : (text : List ℕ)
      → l.at + 2 * length (labels_of (tokens_view text (drop l.at l.tokens))) ≡ 2 * length (labels_of (tokens_view text l.tokens));
}

abbrev pub decreases-loop-at : goal.decreases-loop-at
decreases-loop-at l = length l.tokens - l.at
