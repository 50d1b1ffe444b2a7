use Rattle.flow_reasons.specs.code.Marks.{AreMarks, touches}
use Rattle.flow_reasons.proofs.marks.touch_marks.Given as goal

abbrev pub invariant-loop-point : goal.invariant-loop-point
invariant-loop-point l = AreMarks l.point (touches l.fn.problem l.column) l.marks.items
