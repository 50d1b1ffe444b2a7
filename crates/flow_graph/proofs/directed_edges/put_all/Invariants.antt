use Rattle.std.proofs.Common.{◌≡◌, ◌++◌, flat_map}
use Rattle.std.specs.List.{range_with_len}
use Rattle.flow_graph.specs.Edges.{edges_from}
use Rattle.flow_graph.proofs.directed_edges.put_all.Given as goal

abbrev pub invariant-loop-point : goal.invariant-loop-point
invariant-loop-point g l = record {
  walks : l.walk ≡ record { program = l.fn.graph; point = l.point };
  listed : g.E.EdgeList.listed l.edges ≡ g.E.EdgeList.listed l.fn.edges ++ flat_map (edges_from l.fn.graph) (range_with_len 0 l.point);
}
