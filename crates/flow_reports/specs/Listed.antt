-- The remarks on a program as data, in the order of its report.
use Rattle.std.specs.Prelude.{◌≡◌, ℕ, List, ◌++◌, map, flat_map}
use Rattle.flow_graph.specs.Points.{points}
use Rattle.tac_program.specs.Programs.{Program}
use Rattle.flow_reports.specs.Reports.{IsKnowledge, IsListedDead, IsSafeToDelete, Knowledge, count_line, remark_line, remarks_at, report_of}
use Rattle.flow_reports.specs.declared.listed.PlacedRemark.{PlacedRemark}
use Rattle.flow_reports.specs.declared.remark.Remark.{Remark}

-- remarks on the statement at a point, each with the point
abbrev pub placed_at : ℕ → List Remark → List PlacedRemark
placed_at point remarks = map (λ remark. record { point = point; remark = remark }) remarks

-- all remarks, point by point
abbrev pub remarks_of : Program → Knowledge → List PlacedRemark
remarks_of program known = flat_map (λ point. placed_at point (remarks_at program known point)) (points program)

-- the text that has a line for each of them behind the counts
abbrev pub report_with : Program → List PlacedRemark → List ℕ
report_with program remarks = count_line program ++ flat_map (λ placed. remark_line program placed.point placed.remark) remarks

-- The remarks are made of the meets over all valid paths. The report's lines are theirs, in this order, and what they call dead is safe to
-- delete.
pub record AreRemarks (program : Program) (remarks : List PlacedRemark) : Type 0 where
  pub known : Knowledge
  pub is_known : IsKnowledge program known
  pub are : remarks ≡ remarks_of program known
  pub report : report_of program known ≡ report_with program remarks
  pub safe : (point variable : ℕ) → IsListedDead program known point variable → IsSafeToDelete program point variable
