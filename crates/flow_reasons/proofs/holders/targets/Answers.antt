use Rattle.std.proofs.Common.{◌≡◌, arith, subst}
use Rattle.flow_graph.specs.Points.{point_count}
use Rattle.flow_reasons.specs.code.Holding.{AreTargetsUntil}
use Rattle.flow_reasons.proofs.meetings.Holding.{targets_more}
use Rattle.flow_reasons.proofs.holders.targets.Goals as goal

pub loop-point-preserved : goal.loop-point-preserved
loop-point-preserved c =
    let asked = c.args.asked.now in
    targets_more asked.graph.now asked.expression c.loop-point.point c.loop-point.marks.items c.mark_target.new.marks.items c.loop-point.invariant
    c.mark_target.ensures.count c.mark_target.ensures.kept c.mark_target.ensures.made

pub returns : goal.returns
returns c =
    let asked = c.args.asked.now in
    let last : c.loop-point.point ≡ point_count asked.graph.now =
    omega (arith, c.loop-point-test.false, c.loop-point.auto.point-end, c.points-point-end.ensures.count) in
    subst (λ n. AreTargetsUntil asked.graph.now asked.expression n c.loop-point.marks.items) last c.loop-point.invariant
