use Rattle.std.proofs.Common.{◌≡◌, map, take}
use Rattle.graph_components.specs.code.Targets.{reversed_arc}
use Rattle.graph_components.proofs.lists.reversed_arcs.Given as goal

abbrev pub invariant-loop-arc : goal.invariant-loop-arc
invariant-loop-arc l = l.reversed.items ≡ map reversed_arc (take l.arc-index l.arcs)
