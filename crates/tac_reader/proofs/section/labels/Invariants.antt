use Rattle.std.proofs.Common.{◌≡◌, ◌++◌, ℕ, List, drop, map, flat_map, take, vec_len}
use Rattle.tac_lines.specs.Forms.{labels_of}
use Rattle.tac_lines.specs.code.Ranges.{range_view}
use Rattle.tac_reader.specs.code.SectionViews.{lines_view}
use Rattle.tac_lines.specs.code.Views.{tokens_view}
use Rattle.tac_reader.proofs.section.labels.Given as goal

-- The labels so far and those of the other lines are all.
abbrev pub invariant-loop-at : goal.invariant-loop-at
invariant-loop-at l = record {
  kept : take (vec_len l.fn.found) l.found.items ≡ l.fn.found.items;
  rest : (text : List ℕ)
      → tokens_view text l.found.items ++ flat_map labels_of (map (range_view text l.lines.tokens.now) (drop l.at l.lines.ranges.now))
      ≡ tokens_view text l.fn.found.items ++ flat_map labels_of (lines_view text l.lines);
}
