use Rattle.std.proofs.Common.{◌≡◌, true}
use Rattle.flow_reasons.specs.code.Holding.{is_lost}
use Rattle.flow_reasons.specs.code.Marks.{AreAllBelow}
use Rattle.flow_reasons.proofs.holders.losing_points.Given as goal

abbrev pub invariant-loop-point : goal.invariant-loop-point
invariant-loop-point l = AreAllBelow (λ x. is_lost l.asked.graph.now l.asked.expression l.variable x ≡ true) l.point l.points.items
