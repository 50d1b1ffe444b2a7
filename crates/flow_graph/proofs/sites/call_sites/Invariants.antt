use Rattle.std.proofs.Common.{length}
use Rattle.flow_graph.specs.code.NumberLists.{AreLists, contents}
use Rattle.flow_graph.proofs.edges.SiteLemmas.{sites_before}
use Rattle.flow_graph.proofs.sites.call_sites.Given as goal

abbrev pub invariant-loop-point : goal.invariant-loop-point
invariant-loop-point l = AreLists (contents l.sites.items) (length l.fn.points.procedures) (sites_before l.fn.points l.point)
