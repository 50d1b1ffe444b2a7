use Rattle.std.proofs.Common.{◌≡◌, ◌-◌, ◌≤◌, ◌++◌, false, length, drop, take}
use Rattle.tac_faults.specs.Listed.{first_faults, most_found}
use Rattle.tac_lines.specs.Text.{lines}
use Rattle.tac_lines.specs.Tokens.{rows, rows_from}
use Rattle.tac_faults.proofs.lines.line_faults.Given as goal

-- The faults so far and those of the other lines are all, as far as they are told.
abbrev pub invariant-loop-at : goal.invariant-loop-at
invariant-loop-at l = record {
  within : l.at ≤ length l.text;
  told : take most_found (l.found.items ++ first_faults l.text l.inside (rows_from l.at (lines (drop l.at l.text))))
      ≡ take most_found (first_faults l.text false (rows l.text));
}

abbrev pub decreases-loop-at : goal.decreases-loop-at
decreases-loop-at l = length l.text - l.at
