use Rattle.std.proofs.Common.{◌≡◌, ◌-◌, flat_map, map}
use Rattle.std.specs.List.{range_with_len}
use Rattle.flow_graph.specs.Edges.{edges_from}
use Rattle.flow_records.specs.Edges.{edge_part}
use Rattle.flow_records.proofs.edges.edges_between.Given as goal

abbrev pub invariant-loop-point : goal.invariant-loop-point
invariant-loop-point l = l.edges.items ≡ map edge_part (flat_map (edges_from l.graph) (range_with_len l.from (l.point - l.from)))
