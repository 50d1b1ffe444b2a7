use Rattle.std.proofs.Common.{length}
use Rattle.flow_graph.specs.code.Searching.{search_of}
use Rattle.flow_graph.proofs.edges.LeadingLemmas.{remaining}
use Rattle.graph_components.specs.code.Marks.{AreUpTo, marked_by}
use Rattle.graph_components.proofs.searches.Reaching.{Searches}
use Rattle.graph_components.proofs.reach.reached_from.Given as goal

abbrev pub invariant-loop-node : goal.invariant-loop-node
invariant-loop-node l = record {
  searches : Searches l.arcs (length l.fn.marks.items) l.start l.reached.items (search_of (marked_by l.stamp l.marks.items) l.work.items);
  up_to : AreUpTo l.stamp l.marks.items;
}

abbrev pub decreases-loop-node : goal.decreases-loop-node
decreases-loop-node l = remaining (search_of (marked_by l.stamp l.marks.items) l.work.items)
