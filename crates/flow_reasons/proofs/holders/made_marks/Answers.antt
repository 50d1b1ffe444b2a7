use Rattle.flow_reasons.specs.code.Holding.{is_made}
use Rattle.flow_reasons.proofs.lists.Rising.{one_mark}
use Rattle.flow_reasons.proofs.holders.made_marks.Goals as goal

pub loop-point-preserved : goal.loop-point-preserved
loop-point-preserved c =
    let asked = c.args.asked.now in
    one_mark c.loop-point.point (is_made asked.graph.now asked.expression c.args.variable) c.loop-point.marks.items c.makes.result
    c.push.new.self.items c.loop-point.invariant c.makes.ensures c.in_ok-push.ensures.items
