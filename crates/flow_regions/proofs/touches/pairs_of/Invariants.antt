use Rattle.flow_regions.specs.code.Touches.{AreTouchedTo}
use Rattle.flow_regions.proofs.touches.pairs_of.Given as goal

abbrev pub invariant-loop-point : goal.invariant-loop-point
invariant-loop-point l = AreTouchedTo l.problem l.marked l.point l.pairs.keys.items l.pairs.values.items
