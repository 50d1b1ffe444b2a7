use Rattle.std.proofs.Common.{◌≡◌, map, take}
use Rattle.flow_graph.specs.Problems.{may_shape}
use Rattle.flow_links.specs.Tables.EdgeLists.{site_link, edge_at}
use Rattle.flow_links.proofs.values.sites.Given as goal

abbrev pub invariant-loop-place : goal.invariant-loop-place
invariant-loop-place l =
    l.list.items
    ≡ map (λ place. site_link (may_shape l.fn.problem.program l.fn.problem.analysis) (edge_at l.fn.edges place)) (take l.place-index l.places)
