use Rattle.std.proofs.Common.{◌≡◌, ◌-◌, ◌++◌, filter, not}
use Rattle.std.specs.List.{range_with_len}
use Rattle.flow_rounds.specs.Steps.{computes}
use Rattle.flow_rounds.specs.code.Frames.{iteration_of}
use Rattle.flow_steps.proofs.sets.known_points.Given as goal

abbrev pub invariant-loop-point : goal.invariant-loop-point
invariant-loop-point l =
    l.points.items ++ filter (λ point. not (computes (iteration_of l.frame) point)) (range_with_len l.point (l.frame.points.end - l.point))
    ≡ filter (λ point. not (computes (iteration_of l.frame) point)) (range_with_len l.frame.points.first (l.frame.points.end - l.frame.points.first))
