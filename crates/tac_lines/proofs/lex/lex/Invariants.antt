use Rattle.std.proofs.Common.{◌≡◌, ◌-◌, ◌≤◌, ◌++◌, false, length, drop, map}
use Rattle.tac_lines.specs.LineFaults.{line_faults}
use Rattle.tac_lines.specs.code.Formed.{AreLines}
use Rattle.tac_lines.specs.code.Ranges.{range_views}
use Rattle.tac_lines.specs.code.Views.{tokens_view}
use Rattle.tac_lines.specs.Tokens.{token_lines, rows, rows_from}
use Rattle.tac_lines.specs.Text.{lines}
use Rattle.tac_lines.proofs.lex.lex.Given as goal

-- What is left of the text has the faults of the whole, and the lines so far before its own are the whole's.
abbrev pub invariant-loop-at : goal.invariant-loop-at
invariant-loop-at l = record {
  within : l.at ≤ length l.text;
  faults : line_faults false (length l.text) (rows l.text) ≡ line_faults l.inside (length l.text) (rows_from l.at (lines (drop l.at l.text)));
  stand : AreLines l.tokens.items l.lines.items;
  lines : map (tokens_view l.text) (range_views l.tokens.items l.lines.items)
      ++ token_lines (rows_from l.at (lines (drop l.at l.text))) ≡ token_lines (rows l.text);
}

abbrev pub decreases-loop-at : goal.decreases-loop-at
decreases-loop-at l = length l.text - l.at
