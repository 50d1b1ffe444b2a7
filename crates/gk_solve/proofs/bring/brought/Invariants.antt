use Rattle.std.proofs.Common.{◌≡◌, ◌<◌, ◌+◌, ◌*◌, ℕ, true, length}
use Rattle.worklist.proofs.counts.MarkCounts.{mark_count}
use Rattle.flow_graph.specs.declared.edge.Edge.{Edge}
use Rattle.flow_graph.specs.Paths.{IsEdge}
use Rattle.flow_links.specs.Shapes.{directed_shape}
use Rattle.gk_solve.specs.Tables.Brought.{AreSoundBrought, IsBroughtClosedAt, brought_word, room_of_rows}
use Rattle.gk_solve.specs.Tables.Flags.{source_procedure}
use Rattle.gk_solve.specs.Tables.Groups.{group_of}
use Rattle.gk_solve.specs.Tables.Visits.{IsSettled}
use Rattle.gk_solve.specs.Tables.Words.{HasBit}
use Rattle.gk_solve.proofs.bring.brought.Given as goal

abbrev pub invariant-visits : goal.invariant-visits
invariant-visits g l = record {
  count : length l.dirty ≡ (directed_shape l.frame.links.now).procedures;
  settled : (edge : Edge) → IsEdge (directed_shape l.frame.links.now) edge
      → IsSettled (IsBroughtClosedAt (group_of l.frame g.row.W) l.frame.paths.now l.table) (source_procedure (directed_shape l.frame.links.now))
      l.brought l.dirty edge;
  root : (w k : ℕ) → w < g.row.W → k < 64 → ((group_of l.frame g.row.W).transfer w k).boundary ≡ true
      → HasBit (brought_word l.brought w) (directed_shape l.frame.links.now).root_procedure k;
  sound : AreSoundBrought (group_of l.frame g.row.W) l.brought;
}

abbrev pub decreases-visits : goal.decreases-visits
decreases-visits g l = (length l.dirty + 1) * room_of_rows l.brought + mark_count l.dirty
