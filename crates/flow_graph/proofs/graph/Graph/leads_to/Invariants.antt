use Rattle.flow_graph.specs.code.Searching.{search_of}
use Rattle.flow_graph.proofs.edges.LeadingLemmas.{Searches, remaining}
use Rattle.flow_graph.proofs.graph.Graph.leads_to.Given as goal

abbrev pub invariant-loop-point : goal.invariant-loop-point
invariant-loop-point l = Searches l.fn.self l.marked (search_of l.known.items l.work.items)

abbrev pub decreases-loop-point : goal.decreases-loop-point
decreases-loop-point l = remaining (search_of l.known.items l.work.items)
