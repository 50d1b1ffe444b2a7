use Rattle.std.proofs.Common.{◌≡◌, take}
use Rattle.std.specs.List.{filter}
use Rattle.flow_links.specs.Tables.EdgeLists.{is_call}
use Rattle.flow_links.proofs.call_edges.calls_of.Given as goal

abbrev pub invariant-loop-edge : goal.invariant-loop-edge
invariant-loop-edge l = l.calls.items ≡ filter is_call (take l.edge-index l.edges)
