use Rattle.std.proofs.Common.{◌+◌, subst, sym, take}
use Rattle.flow_rounds.specs.code.Frames.{AreSources, has_path_within}
use Rattle.flow_rounds.proofs.lists.Sources.{next_list}
use Rattle.flow_rounds.proofs.frame.sources_of.Goals as goal

pub loop-point-preserved : goal.loop-point-preserved
loop-point-preserved c =
    subst (λ lists. AreSources c.args.edges.now (has_path_within c.args.points c.args.table.now)
    (take (c.loop-point.point-index + 1) c.args.order.now) lists)
    (sym c.in_ok-push.ensures.items)
    (next_list c.args.edges.now (has_path_within c.args.points c.args.table.now) c.args.order.now c.loop-point.point-index c.loop-point.lists.items _
    c.loop-point-test.true c.loop-point.invariant c.in_ok-points.ensures)
