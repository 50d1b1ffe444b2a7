use Rattle.std.proofs.Common.{slice_index}
use Rattle.flow_bounds.specs.Clauses.{cell_count}
use Rattle.flow_bounds.specs.code.Frames.{Adds, BelowClause, PointClause}
use Rattle.flow_bounds.proofs.clauses.put_points.Given as goal

abbrev pub invariant-loop-point : goal.invariant-loop-point
invariant-loop-point l = Adds (cell_count l.frame) (BelowClause (λ i. PointClause l.frame (slice_index l.frame.points.now i)) l.point-index)
    l.fn.rules.items l.rules.items
