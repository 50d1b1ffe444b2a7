use Rattle.std.proofs.Common.{◌≡◌, true, arith, sym, ◌∙◌, subst}
use Rattle.flow_graph.specs.Points.{point_count}
use Rattle.flow_reasons.specs.code.Holding.{is_lost}
use Rattle.flow_reasons.specs.code.Marks.{AreAllBelow}
use Rattle.flow_reasons.proofs.lists.Rising.{one_step}
use Rattle.flow_reasons.proofs.holders.losing_points.Goals as goal

pub loop-point-preserved : goal.loop-point-preserved
loop-point-preserved c =
    one_step (λ x. is_lost c.args.asked.now.graph.now c.args.asked.now.expression c.args.variable x ≡ true) c.loop-point.point
    c.loop-point.points.items c.loop-point.invariant c.loses.result c.put_if.new.numbers.items
    (λ yes. sym c.loses.ensures ∙ yes, λ is. c.loses.ensures ∙ is) c.in_ok-put_if.ensures

pub returns : goal.returns
returns c =
    let last : c.loop-point.point ≡ point_count c.args.asked.now.graph.now =
    omega (arith, c.loop-point-test.false, c.loop-point.auto.point-end, c.points-point-end.ensures.count) in
    subst (λ n. AreAllBelow (λ x. is_lost c.args.asked.now.graph.now c.args.asked.now.expression c.args.variable x ≡ true) n
    c.loop-point.points.items) last c.loop-point.invariant
