use Rattle.std.proofs.Common.{◌≡◌, ◌++◌, drop, filter}
use Rattle.flow_steps.specs.code.Told.{differs}
use Rattle.flow_steps.proofs.sets.changed_points.Given as goal

abbrev pub invariant-loop-point : goal.invariant-loop-point
invariant-loop-point l =
    l.points.items ++ filter (differs l.frame l.old l.new) (drop l.point-index l.frame.order) ≡ filter (differs l.frame l.old l.new) l.frame.order
