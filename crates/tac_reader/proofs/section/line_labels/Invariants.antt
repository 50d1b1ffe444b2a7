use Rattle.std.proofs.Common.{◌≡◌, ◌≤◌, ◌++◌, ◌-◌, ℕ, List, drop, length, take, vec_len}
use Rattle.tac_lines.specs.Forms.{labels_of}
use Rattle.tac_lines.specs.code.Views.{tokens_view}
use Rattle.tac_reader.proofs.section.line_labels.Given as goal

-- The labels so far and those of the rest are all.
abbrev pub invariant-loop-found : goal.invariant-loop-found
invariant-loop-found l = record {
  within : l.at ≤ length l.line;
  kept : take (vec_len l.fn.found) l.found.items ≡ l.fn.found.items;
  rest : (text : List ℕ) → tokens_view text l.found.items ++ labels_of (tokens_view text (drop l.at l.line)) ≡ tokens_view text l.fn.found.items
      ++ labels_of (tokens_view text l.line);
}

abbrev pub decreases-loop-found : goal.decreases-loop-found
decreases-loop-found l = length l.line - l.at
