-- The points before the next one are told.
use Rattle.std.proofs.Common.{◌≡◌, ℕ, ◌<◌, length}
use Rattle.std.specs.Prelude.{Some, slice_get}
use Rattle.flow_records.specs.Parts.{point_part}
use Rattle.flow_records.proofs.parts.put_points.Given as goal

abbrev pub invariant-loop-point : goal.invariant-loop-point
invariant-loop-point l = record {
  count : length l.points ≡ length l.initial.points;
  each : (n : ℕ) → n < l.point → slice_get l.points n ≡ Some (point_part l.graph n);
}
