use Rattle.std.proofs.Common.{◌≡◌, false, map, not}
use Rattle.std.specs.Prelude.{slice_index_or}
use Rattle.std.specs.List.{range_with_len}
use Rattle.flow_kept.proofs.points.complement.Given as goal

abbrev pub invariant-loop-point : goal.invariant-loop-point
invariant-loop-point l = l.others.items ≡ map (λ point. not (slice_index_or l.values point false)) (range_with_len 0 l.point)
