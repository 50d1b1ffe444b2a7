use Rattle.std.proofs.Common.{take}
use Rattle.flow_graph.specs.code.NumberLists.{AreLists, contents}
use Rattle.graph_components.specs.code.Targets.{targets_of}
use Rattle.graph_components.proofs.lists.target_lists.Given as goal

abbrev pub invariant-loop-arc : goal.invariant-loop-arc
invariant-loop-arc l = AreLists (contents l.lists.items) l.count (targets_of (take l.arc-index l.arcs))
