use Rattle.flow_graph.specs.code.Searching.{search_of}
use Rattle.flow_graph.proofs.edges.LeadingLemmas.{remaining}
use Rattle.flow_lints.proofs.Leading.{Searches}
use Rattle.flow_lints.proofs.leads.leads_among.Given as goal

abbrev pub invariant-loop-point : goal.invariant-loop-point
invariant-loop-point l = Searches l.graph l.among l.marked (search_of l.known.items l.work.items)

abbrev pub decreases-loop-point : goal.decreases-loop-point
decreases-loop-point l = remaining (search_of l.known.items l.work.items)
