use Rattle.std.proofs.Common.{◌<◌, arith}
use Rattle.flow_graph.specs.Points.{point_count}
use Rattle.flow_lints.specs.code.Lints.{lint_knowledge_of}
use Rattle.flow_lints.proofs.Lists.{front_of_point, one_more}
use Rattle.flow_lints.proofs.found.LintFindings.lints.Goals as goal

pub put_lints-requires-clause-front : goal.put_lints-requires-clause-front
put_lints-requires-clause-front c =
    let below : c.loop-point.point < point_count c.args.self.now.undoubted.graph.now = omega arith in
    front_of_point c.args.self.now.undoubted.graph.now (lint_knowledge_of c.args.self.now) c.args.remarks.now c.loop-point.point c.loop-point.next
    c.loop-point.lints.items below c.loop-point.invariant

pub loop-point-preserved : goal.loop-point-preserved
loop-point-preserved c =
    let below : c.loop-point.point < point_count c.args.self.now.undoubted.graph.now = omega arith in
    one_more c.args.self.now.undoubted.graph.now (lint_knowledge_of c.args.self.now) c.args.remarks.now c.loop-point.point c.loop-point.next
    c.in_ok-next.next c.loop-point.lints.items c.put_lints.new.lints.items below c.loop-point.invariant c.in_ok-next.ensures.within
    c.in_ok-next.ensures.next c.in_ok-next.ensures.put
