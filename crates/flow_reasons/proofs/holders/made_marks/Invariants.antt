use Rattle.flow_reasons.specs.code.Holding.{is_made}
use Rattle.flow_reasons.specs.code.Marks.{AreMarks}
use Rattle.flow_reasons.proofs.holders.made_marks.Given as goal

abbrev pub invariant-loop-point : goal.invariant-loop-point
invariant-loop-point l = AreMarks l.point (is_made l.asked.graph.now l.asked.expression l.variable) l.marks.items
