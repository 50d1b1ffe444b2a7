use Rattle.std.proofs.Common.{◌≡◌, ◌+◌, ◌*◌, length}
use Rattle.worklist.proofs.counts.MarkCounts.{mark_count}
use Rattle.flow_graph.specs.declared.edge.Edge.{Edge}
use Rattle.flow_graph.specs.Paths.{IsEdge}
use Rattle.summary_equations.specs.Equations.{Entered}
use Rattle.flow_links.specs.Shapes.{directed_shape}
use Rattle.gk_solve.specs.Tables.Flags.{IsFlagged, AreSound, IsEntryClosedAt, unset_flags, source_procedure}
use Rattle.gk_solve.specs.Tables.Visits.{IsSettled}
use Rattle.gk_solve.proofs.enter.entered.Given as goal

abbrev pub invariant-visits : goal.invariant-visits
invariant-visits l = record {
  count : length l.dirty ≡ (directed_shape l.links).procedures;
  settled : (edge : Edge) → IsEdge (directed_shape l.links) edge
      → IsSettled (IsEntryClosedAt (directed_shape l.links) l.reached) (source_procedure (directed_shape l.links)) l.flags l.dirty edge;
  root : IsFlagged l.flags (directed_shape l.links).root_procedure;
  sound : AreSound (Entered (directed_shape l.links)) l.flags;
}

abbrev pub decreases-visits : goal.decreases-visits
decreases-visits l = (length l.dirty + 1) * unset_flags l.flags + mark_count l.dirty
