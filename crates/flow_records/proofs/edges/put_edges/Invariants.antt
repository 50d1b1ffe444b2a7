use Rattle.std.proofs.Common.{◌≡◌, ◌++◌, map, take}
use Rattle.flow_records.specs.Edges.{edge_part}
use Rattle.flow_records.proofs.edges.put_edges.Given as goal

abbrev pub invariant-loop-edge : goal.invariant-loop-edge
invariant-loop-edge l = l.edges.items ≡ l.initial.edges.items ++ map edge_part (take l.edge-index l.found)
