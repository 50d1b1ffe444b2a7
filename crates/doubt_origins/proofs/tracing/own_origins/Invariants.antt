use Rattle.std.proofs.Common.{◌≡◌, false, get_or, map}
use Rattle.std.specs.List.{range_with_len}
use Rattle.doubt_origins.specs.code.Tracing.{own_origin}
use Rattle.doubt_origins.proofs.tracing.own_origins.Given as goal

abbrev pub invariant-loop-point : goal.invariant-loop-point
invariant-loop-point l = l.origins.items ≡ map (λ point. own_origin (get_or l.endless point false) point) (range_with_len 0 l.point)
