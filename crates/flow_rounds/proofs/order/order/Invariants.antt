use Rattle.flow_rounds.specs.code.Orders.{ArePut}
use Rattle.flow_rounds.proofs.order.order.Given as goal

abbrev pub invariant-loop-point : goal.invariant-loop-point
invariant-loop-point l = ArePut l.points l.computed 0 l.order.items

abbrev pub invariant-loop-point-2 : goal.invariant-loop-point-2
invariant-loop-point-2 l = ArePut l.points l.computed l.point l.order.items
