use Rattle.std.proofs.Common.{◌≡◌, length, slice_index, subst, arith}
use Rattle.flow_bounds.specs.Clauses.{cell_count}
use Rattle.flow_bounds.specs.code.Frames.{Adds, BelowClause, PointClause}
use Rattle.flow_bounds.proofs.telling.Adding.{adds_more}
use Rattle.flow_bounds.proofs.clauses.put_points.Goals as goal

pub loop-point-preserved : goal.loop-point-preserved
loop-point-preserved c =
    adds_more (cell_count c.args.frame.now) (λ i. PointClause c.args.frame.now (slice_index c.args.frame.now.points.now i)) c.loop-point.point-index
    _ _ _ c.loop-point.invariant c.in_ok-put_point.ensures

pub returns : goal.returns
returns c =
    let all : c.loop-point.point-index ≡ length c.args.frame.now.points.now = omega arith in
    subst (λ n. Adds (cell_count c.args.frame.now) (BelowClause (λ i. PointClause c.args.frame.now (slice_index c.args.frame.now.points.now i)) n)
    c.args.rules.now.items c.loop-point.rules.items) all c.loop-point.invariant
