use Rattle.std.proofs.Common.{◌≡◌, map, take}
use Rattle.flow_links.specs.Tables.EdgeLists.{call_source, edge_at}
use Rattle.flow_links.proofs.values.sources.Given as goal

abbrev pub invariant-loop-place : goal.invariant-loop-place
invariant-loop-place l = l.list.items ≡ map (λ place. call_source (edge_at l.fn.edges place)) (take l.place-index l.places)
