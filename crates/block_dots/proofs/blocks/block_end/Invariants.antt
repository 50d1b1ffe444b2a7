use Rattle.std.proofs.Common.{◌≡◌, ◌-◌}
use Rattle.std.specs.List.{find, range_with_len}
use Rattle.block_dots.specs.Blocks.{is_leader, points_behind}
use Rattle.block_dots.proofs.blocks.block_end.Given as goal

abbrev pub invariant-loop-point : goal.invariant-loop-point
invariant-loop-point l =
    find (is_leader l.shown.found.graph.now) (points_behind l.shown.found.graph.now l.leader)
    ≡ find (is_leader l.shown.found.graph.now) (range_with_len l.point (l.points.end - l.point))
