use Rattle.std.proofs.Common.{◌≡◌, ◌≤◌, ◌++◌, ◌-◌, ℕ, List, drop, length, map}
use Rattle.tac_reader.specs.Sections.{sections_in}
use Rattle.tac_lines.specs.code.Ranges.{range_view}
use Rattle.tac_reader.specs.code.SectionViews.{lines_view, sections_view}
use Rattle.tac_reader.proofs.section.sections.Given as goal

-- The sections so far and those of the rest are all.
abbrev pub invariant-loop-at : goal.invariant-loop-at
invariant-loop-at l = record {
  within : l.at ≤ length l.lines.ranges.now;
  rest : (text : List ℕ) → sections_view text l.found.items
      ++ sections_in (map (range_view text l.lines.tokens.now) (drop l.at l.lines.ranges.now)) ≡ sections_in (lines_view text l.lines);
}

abbrev pub decreases-loop-at : goal.decreases-loop-at
decreases-loop-at l = length l.lines.ranges.now - l.at
