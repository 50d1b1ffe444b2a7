use Rattle.gen_kill.specs.Selections.{column_kills}
use Rattle.flow_reasons.specs.code.Marks.{AreMarks}
use Rattle.flow_reasons.proofs.marks.kill_marks.Given as goal

abbrev pub invariant-loop-point : goal.invariant-loop-point
invariant-loop-point l = AreMarks l.point (λ x. column_kills l.fn.problem x l.column) l.marks.items
