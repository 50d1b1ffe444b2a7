use Rattle.std.proofs.Common.{◌≡◌, ◌≤◌, drop, length}
use Rattle.tac_lines.specs.Text.{lines}
use Rattle.tac_hints.specs.Texts.{nth_line}
use Rattle.tac_hints.proofs.text_hints.nth_line_bytes.Given as goal

-- As many lines are left to be passed.
abbrev pub invariant-loop-left : goal.invariant-loop-left
invariant-loop-left l = record {
  within : l.at ≤ length l.text;
  left : nth_line l.left l.at (lines (drop l.at l.text)) ≡ nth_line l.number 0 (lines l.text);
}

abbrev pub decreases-loop-left : goal.decreases-loop-left
decreases-loop-left l = l.left
