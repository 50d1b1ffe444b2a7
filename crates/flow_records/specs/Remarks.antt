-- The remarks on a program, as numbers.
use Rattle.std.specs.Prelude.{◌≡◌, ℕ, List, map}
use Rattle.flow_reports.specs.Listed.{AreRemarks}
use Rattle.flow_reports.specs.declared.listed.PlacedRemark.{PlacedRemark}
use Rattle.flow_reports.specs.declared.remark.Remark.{Remark}
use Rattle.flow_reports.specs.declared.remark.Remark.TheVariants.{NeverReached, Unset, Computed, VeryBusy, Dead}
use Rattle.tac_program.specs.Programs.{Program}
use Rattle.flow_records.specs.declared.remarks.NumberedRemark.{NumberedRemark}

-- the variable or the expression that a remark names; one that names nothing has the largest number of 32 bits
abbrev pub remark_numbers : ℕ → Remark → NumberedRemark
remark_numbers point NeverReached = record { point = point; kind = 0; name = 4294967295 }
remark_numbers point (Unset variable) = record { point = point; kind = 1; name = variable }
remark_numbers point (Computed expression) = record { point = point; kind = 2; name = expression }
remark_numbers point (VeryBusy expression) = record { point = point; kind = 3; name = expression }
remark_numbers point (Dead variable) = record { point = point; kind = 4; name = variable }

abbrev pub remark_part : PlacedRemark → NumberedRemark
remark_part placed = remark_numbers placed.point placed.remark

-- They are the program's remarks, in the order of its report.
pub record AreNumberedRemarks (program : Program) (numbered : List NumberedRemark) : Type 0 where
  pub remarks : List PlacedRemark
  pub are : AreRemarks program remarks
  pub same : numbered ≡ map remark_part remarks
