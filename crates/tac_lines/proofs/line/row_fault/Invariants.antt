use Rattle.std.proofs.Common.{◌≡◌, ◌≤◌, ◌++◌, drop, length, flat_map}
use Rattle.tac_lines.specs.LineFaults.{first_by_place, form_fault, word_fault}
use Rattle.tac_lines.specs.code.Views.{tokens_view}
use Rattle.tac_lines.proofs.line.row_fault.Given as goal

-- The first fault of the tokens from here on, and of the form.
abbrev pub invariant-loop-at : goal.invariant-loop-at
invariant-loop-at l = record {
  within : l.at ≤ length l.tokens;
  first : l.first ≡ first_by_place (flat_map word_fault (tokens_view l.text (drop l.at l.tokens))
      ++ form_fault l.inside (record { tokens = tokens_view l.text l.tokens; bad = l.bad }));
}

abbrev pub decreases-loop-at : goal.decreases-loop-at
decreases-loop-at l = l.at
