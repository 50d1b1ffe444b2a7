use Rattle.graph_components.specs.code.Found.{AreFound}
use Rattle.graph_components.proofs.components.number_all.Given as goal

abbrev pub invariant-loop-start : goal.invariant-loop-start
invariant-loop-start l = AreFound l.ways.arcs.now l.nodes l.start l.found
