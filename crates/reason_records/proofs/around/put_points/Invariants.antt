use Rattle.std.proofs.Common.{◌≡◌, ◌++◌, map, take}
use Rattle.reason_records.specs.Around.{point_nearby}
use Rattle.reason_records.proofs.around.put_points.Given as goal

abbrev pub invariant-loop-point : goal.invariant-loop-point
invariant-loop-point l = l.nearby.items ≡ l.initial.nearby.items ++ map (point_nearby l.kind) (take l.point-index l.points)
