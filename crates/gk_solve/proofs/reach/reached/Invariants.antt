use Rattle.std.proofs.Common.{◌≡◌, ◌<◌, ◌+◌, ◌*◌, ℕ, length}
use Rattle.worklist.proofs.counts.MarkCounts.{mark_count}
use Rattle.flow_graph.specs.declared.edge.Edge.{Edge}
use Rattle.flow_graph.specs.Paths.{IsEdge, source_of}
use Rattle.flow_graph.specs.Points.{point_count}
use Rattle.summary_equations.specs.Equations.{Reached}
use Rattle.flow_links.specs.Shapes.{directed_shape}
use Rattle.gk_solve.specs.Tables.Flags.{IsFlagged, AreSound, IsReachClosedAt, unset_flags}
use Rattle.gk_solve.specs.Tables.Visits.{IsSettled}
use Rattle.gk_solve.proofs.reach.reached.Given as goal

abbrev pub invariant-visits : goal.invariant-visits
invariant-visits l = record {
  count : length l.dirty ≡ point_count l.links.program;
  settled : (edge : Edge) → IsEdge (directed_shape l.links) edge
      → IsSettled (IsReachClosedAt (directed_shape l.links) l.links.backward) source_of l.flags l.dirty edge;
  entries : (p : ℕ) → p < (directed_shape l.links).procedures → IsFlagged l.flags ((directed_shape l.links).entry p);
  sound : AreSound (Reached (directed_shape l.links)) l.flags;
}

abbrev pub decreases-visits : goal.decreases-visits
decreases-visits l = (length l.dirty + 1) * unset_flags l.flags + mark_count l.dirty
