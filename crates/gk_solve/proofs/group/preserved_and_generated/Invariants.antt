use Rattle.std.proofs.Common.{◌≡◌, ◌<◌, ◌+◌, ◌*◌, ℕ, length}
use Rattle.worklist.proofs.counts.MarkCounts.{mark_count}
use Rattle.flow_graph.specs.declared.edge.Edge.{Edge}
use Rattle.flow_graph.specs.Paths.{IsEdge}
use Rattle.flow_graph.specs.Points.{point_count}
use Rattle.flow_links.specs.Shapes.{directed_shape}
use Rattle.gk_solve.specs.Tables.Groups.{AreSoundSummaries, IsSummarySettled, group_of, preserved_word, room_of_summaries}
use Rattle.gk_solve.specs.Tables.Words.{HasBit}
use Rattle.gk_solve.proofs.group.preserved_and_generated.Given as goal

abbrev pub invariant-visits : goal.invariant-visits
invariant-visits g l = record {
  count : length l.dirty ≡ point_count l.frame.links.now.program;
  settled : (edge : Edge) → IsEdge (directed_shape l.frame.links.now) edge
      → IsSummarySettled (group_of l.frame g.row.W) l.frame.paths.now l.table l.dirty edge;
  entries : (p w k : ℕ) → p < (directed_shape l.frame.links.now).procedures → w < g.row.W → k < 64
      → HasBit (preserved_word l.table w) ((directed_shape l.frame.links.now).entry p) k;
  sound : AreSoundSummaries (group_of l.frame g.row.W) l.table;
}

abbrev pub decreases-visits : goal.decreases-visits
decreases-visits g l = (length l.dirty + 1) * room_of_summaries l.table + mark_count l.dirty
