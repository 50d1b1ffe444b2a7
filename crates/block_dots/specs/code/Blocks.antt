-- How the code's blocks stand for those of what is shown.
use Rattle.std.specs.Prelude.{◌≡◌, ℕ, ◌<◌, ◌≤◌, ◌-◌, List}
use Rattle.std.specs.List.{list_any, range_with_len}
use Rattle.flow_graph.specs.Points.{point_count}
use Rattle.flow_reports.specs.Reports.{Knowledge}
use Rattle.flow_views.specs.Views.{marks_at}
use Rattle.flow_views.specs.code.ViewProgram.{IsShownPoint}
use Rattle.flow_views.specs.declared.marks.PointMarks.{PointMarks}
use Rattle.flow_views.specs.declared.view_program.ViewProgram.{ViewProgram}
use Rattle.tac_program.specs.Programs.{Program}
use Rattle.block_dots.specs.Blocks.{block_end}
use Rattle.block_dots.specs.declared.blocks.Block.{Block}

-- its points
abbrev pub points_of : Block → List ℕ
points_of block = range_with_len block.leader (block.end - block.leader)

-- It is the one that begins at its first point, and its points are shown.
pub record IsShownBlock (shown : ViewProgram) (block : Block) : Type 0 where
  pub above : block.leader < block.end
  pub ends : block.end ≡ block_end shown.found.graph.now block.leader
  pub below : block.end ≤ point_count shown.found.graph.now
  pub shows : (point : ℕ) → block.leader ≤ point → point < block.end → IsShownPoint shown point

-- what is marked of the points from a leader on and before another one
abbrev pub marks_before : Program → Knowledge → ℕ → ℕ → PointMarks
marks_before program known leader until = record {
  reached = (marks_at program known leader).reached;
  unset = list_any (λ point. (marks_at program known point).unset) (range_with_len leader (until - leader));
  dead = list_any (λ point. (marks_at program known point).dead) (range_with_len leader (until - leader));
  doubtful = list_any (λ point. (marks_at program known point).doubtful) (range_with_len leader (until - leader));
}
