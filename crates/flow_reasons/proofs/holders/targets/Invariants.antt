use Rattle.flow_reasons.specs.code.Holding.{AreTargetsUntil}
use Rattle.flow_reasons.proofs.holders.targets.Given as goal

abbrev pub invariant-loop-point : goal.invariant-loop-point
invariant-loop-point l = AreTargetsUntil l.asked.graph.now l.asked.expression l.point l.marks.items
