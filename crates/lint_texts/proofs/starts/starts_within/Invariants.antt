use Rattle.std.proofs.Common.{◌≡◌, ◌+◌, ◌-◌, ◌≤◌, length}
use Rattle.lint_texts.specs.Starts.{starts_from}
use Rattle.tac_lines.specs.Forms.{end_form, proc_form}
use Rattle.tac_lines.specs.Tokens.{rows}
use Rattle.lint_texts.proofs.Scanned.{with_rest}
use Rattle.lint_texts.proofs.starts.starts_within.Given as goal

-- The starts so far and those of the rest are all.
abbrev pub invariant-loop-at : goal.invariant-loop-at
invariant-loop-at l = record {
  within : l.at ≤ length l.text;
  number : l.line ≤ l.at + 1;
  openings : with_rest proc_form l.text l.at l.line l.openings.items ≡ starts_from proc_form 1 (rows l.text);
  closings : with_rest end_form l.text l.at l.line l.closings.items ≡ starts_from end_form 1 (rows l.text);
}

abbrev pub decreases-loop-at : goal.decreases-loop-at
decreases-loop-at l = length l.text - l.at
