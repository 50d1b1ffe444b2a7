use Rattle.flow_regions.specs.code.Ways.{AreWays}
use Rattle.flow_regions.proofs.ways.list_of.Given as goal

abbrev pub invariant-loop-point : goal.invariant-loop-point
invariant-loop-point l = AreWays l.links l.ways.items
