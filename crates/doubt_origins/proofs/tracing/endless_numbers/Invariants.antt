use Rattle.std.proofs.Common.{◌≡◌, false, get_or}
use Rattle.std.specs.List.{filter, range_with_len}
use Rattle.doubt_origins.proofs.tracing.endless_numbers.Given as goal

abbrev pub invariant-loop-point : goal.invariant-loop-point
invariant-loop-point l = l.points.items ≡ filter (λ point. get_or l.endless point false) (range_with_len 0 l.point)
