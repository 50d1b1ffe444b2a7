use Rattle.std.proofs.Common.{◌+◌, subst, sym}
use Rattle.flow_rounds.specs.code.Orders.{ArePut}
use Rattle.flow_rounds.proofs.lists.Orders.{put_more, put_next}
use Rattle.flow_rounds.proofs.order.order.Goals as goal

pub loop-point-preserved : goal.loop-point-preserved
loop-point-preserved c =
    subst (λ order. ArePut c.args.points c.args.computed.now 0 order) (sym c.in_ok-put_point.ensures)
    (put_more c.args.points c.args.computed.now c.loop-point.order.items _ 0 c.loop-point.invariant)

pub loop-point-2-preserved : goal.loop-point-2-preserved
loop-point-2-preserved c =
    subst (λ order. ArePut c.args.points c.args.computed.now (c.loop-point-2.point + 1) order) (sym c.in_ok-put_point-2.ensures)
    (put_next c.args.points c.args.computed.now c.loop-point-2.order.items c.loop-point-2.point c.loop-point-2.invariant)
