use Rattle.std.proofs.Common.{drop}
use Rattle.flow_graph.specs.code.Searching.{search_of}
use Rattle.flow_graph.proofs.edges.LeadingLemmas.{remaining}
use Rattle.doubt_origins.specs.code.Tracing.{known_in}
use Rattle.doubt_origins.proofs.traces.Tracing.{Traces}
use Rattle.doubt_origins.proofs.tracing.traced_origins.Given as goal

abbrev pub invariant-loop-next : goal.invariant-loop-next
invariant-loop-next l = Traces l.graph l.endless l.next l.origins.items l.work.items

abbrev pub decreases-loop-next : goal.decreases-loop-next
decreases-loop-next l = remaining (search_of (known_in l.origins.items) (drop l.next l.work.items))
