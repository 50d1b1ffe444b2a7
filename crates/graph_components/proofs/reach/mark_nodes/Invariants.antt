use Rattle.std.proofs.Common.{◌≡◌, fold, take}
use Rattle.flow_graph.specs.code.Searching.{search_of, with_known}
use Rattle.graph_components.specs.code.Marks.{AreUpTo, marked_by}
use Rattle.graph_components.proofs.reach.mark_nodes.Given as goal

abbrev pub invariant-loop-node : goal.invariant-loop-node
invariant-loop-node l = record {
  marked : search_of (marked_by l.stamp l.marks.items) l.work.items
      ≡ fold with_known (search_of (marked_by l.stamp l.fn.marks.items) l.fn.work.items) (take l.node-index l.nodes);
  up_to : AreUpTo l.stamp l.fn.marks.items → AreUpTo l.stamp l.marks.items;
}
