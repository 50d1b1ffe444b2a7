use Rattle.std.proofs.Common.{◌≡◌, ◌≤◌, ◌+◌, ◌-◌, ℕ, List, drop, length, map}
use Rattle.std.specs.List.{prefix_len}
use Rattle.tac_lines.specs.Forms.{is_inner}
use Rattle.tac_lines.specs.code.Ranges.{range_view}
use Rattle.tac_reader.proofs.section.inner_lines.Given as goal

-- All lines so far are inner ones.
abbrev pub invariant-loop-at : goal.invariant-loop-at
invariant-loop-at l = record {
  order : l.first ≤ l.at;
  within : l.at ≤ length l.lines.ranges.now;
  run : (text : List ℕ) → l.at + prefix_len is_inner (map (range_view text l.lines.tokens.now) (drop l.at l.lines.ranges.now))
      ≡ l.first + prefix_len is_inner (map (range_view text l.lines.tokens.now) (drop l.first l.lines.ranges.now));
}

abbrev pub decreases-loop-at : goal.decreases-loop-at
decreases-loop-at l = length l.lines.ranges.now - l.at
