use Rattle.busy_bounds.specs.code.Kept.{ArePointSets}
use Rattle.busy_bounds.proofs.finding.point_sets.Given as goal

abbrev pub invariant-loop-number : goal.invariant-loop-number
invariant-loop-number l = ArePointSets l.busy.graph.now l.items.items l.points.items
