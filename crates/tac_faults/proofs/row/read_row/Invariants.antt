use Rattle.std.proofs.Common.{◌-◌, ◌≡◌, ◌≤◌, zero, slice_range}
use Rattle.tac_lines.specs.Tokens.{row_from}
use Rattle.tac_lines.specs.code.Views.{tokens_view}
use Rattle.tac_lines.proofs.tokens.RowSteps.{joined}
use Rattle.tac_faults.proofs.row.read_row.Given as goal

-- The tokens so far and those of the rest are the line's.
abbrev pub invariant-loop-at : goal.invariant-loop-at
invariant-loop-at l = record {
  begun : l.start ≤ l.at;
  within : l.at ≤ l.stop;
  rest : joined (tokens_view l.text l.row.items) (row_from l.at zero (slice_range l.text l.at l.stop))
      ≡ row_from l.start zero (slice_range l.text l.start l.stop);
}

abbrev pub decreases-loop-at : goal.decreases-loop-at
decreases-loop-at l = l.stop - l.at
