use Rattle.flow_reasons.specs.Holders.{HoldsValue}
use Rattle.flow_reasons.specs.code.Marks.{AreAllBelow}
use Rattle.flow_reasons.proofs.holders.list_holders.Given as goal

abbrev pub invariant-loop-variable : goal.invariant-loop-variable
invariant-loop-variable l = AreAllBelow (HoldsValue l.asked.graph.now l.asked.expression l.asked.at) l.variable l.list.items
