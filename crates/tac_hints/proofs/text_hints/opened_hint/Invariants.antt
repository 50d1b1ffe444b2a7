use Rattle.std.proofs.Common.{◌≡◌, ◌+◌, ◌≤◌, drop, length, take}
use Rattle.tac_lines.specs.Text.{lines}
use Rattle.tac_lines.specs.Tokens.{rows, rows_from}
use Rattle.tac_hints.specs.Texts.{opened_hint}
use Rattle.tac_faults.specs.declared.slips.Hint.TheVariants as hint
use Rattle.tac_hints.proofs.text_hints.opened_hint.Given as goal

-- As many lines are left to be asked.
abbrev pub invariant-loop-left : goal.invariant-loop-left
invariant-loop-left l = record {
  within : l.at ≤ length l.text;
  number : l.line ≤ l.at + 1;
  left : opened_hint l.line (take l.left (rows_from l.at (lines (drop l.at l.text)))) l.hint
      ≡ opened_hint 1 (take l.count (rows l.text)) hint.None;
}

abbrev pub decreases-loop-left : goal.decreases-loop-left
decreases-loop-left l = l.left
