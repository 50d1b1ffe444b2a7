use Rattle.std.proofs.Common.{◌≡◌, ◌≤◌, ◌++◌, ℕ, List, map, drop, length}
use Rattle.tac_reader.specs.Parses.{label_places, labels_from}
use Rattle.tac_lines.specs.code.Ranges.{range_view}
use Rattle.tac_reader.specs.code.SectionViews.{lines_view}
use Rattle.tac_reader.proofs.procedure.section_labels.Given as goal

-- The labels so far and those of the other lines are all.
abbrev pub invariant-loop-at : goal.invariant-loop-at
invariant-loop-at l = record {
  within : l.place ≤ l.at;
  rest : (text : List ℕ) → l.labels.items
      ++ labels_from (length l.labels.items) (label_places l.place (map (range_view text l.lines.tokens.now) (drop l.at l.lines.ranges.now)))
      ≡ labels_from 0 (label_places 0 (lines_view text l.lines));
}
