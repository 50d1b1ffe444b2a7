use Rattle.std.proofs.Common.{◌≡◌, drop}
use Rattle.std.specs.List.{list_all}
use Rattle.flow_graph.specs.Paths.{target_of}
use Rattle.flow_team.specs.Tables.{facts_of}
use Rattle.point_sets.proofs.behind.is_in_each.Given as goal

abbrev pub invariant-loop-edge : goal.invariant-loop-edge
invariant-loop-edge l =
    list_all (λ edge. (facts_of l.table).contains (target_of edge) l.bit) l.edges
    ≡ list_all (λ edge. (facts_of l.table).contains (target_of edge) l.bit) (drop l.edge-index l.edges)
