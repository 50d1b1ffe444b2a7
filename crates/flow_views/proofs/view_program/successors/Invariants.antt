use Rattle.std.proofs.Common.{◌≡◌, map}
use Rattle.std.specs.List.{range_with_len}
use Rattle.flow_graph.specs.Edges.{edges_from}
use Rattle.flow_views.specs.code.ViewProgram.{contents}
use Rattle.flow_views.proofs.view_program.successors.Given as goal

abbrev pub invariant-loop-point : goal.invariant-loop-point
invariant-loop-point l = contents l.lists.items ≡ map (edges_from l.fn.graph) (range_with_len 0 l.point)
