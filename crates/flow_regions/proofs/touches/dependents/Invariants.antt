use Rattle.flow_regions.specs.code.Touches.{AreDependentTo}
use Rattle.flow_regions.proofs.touches.dependents.Given as goal

abbrev pub invariant-loop-column : goal.invariant-loop-column
invariant-loop-column l = AreDependentTo l.problem l.marked l.column l.pairs.keys.items l.pairs.values.items
