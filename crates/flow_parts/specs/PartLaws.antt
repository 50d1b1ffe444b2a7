-- What the parts of a report are together.
use Rattle.std.specs.Prelude.{◌≡◌, ℕ, ◌≤◌, Bool, ◌==◌, ◌&&◌, filter, flat_map}
use Rattle.std.specs.List.{range_with_len}
use Rattle.tac_program.specs.Programs.{Program}
use Rattle.tac_program.specs.Sound.{IsSound}
use Rattle.flow_reports.specs.Reports.{Knowledge}
use Rattle.flow_reports.specs.Listed.{remarks_of}
use Rattle.flow_reports.specs.declared.listed.PlacedRemark.{PlacedRemark}
use Rattle.flow_reports.specs.declared.remark.Remark.{Remark}
use Rattle.flow_reports.specs.declared.remark.Remark.TheVariants.{NeverReached, Unset, Computed, VeryBusy, Dead}
use Rattle.flow_parts.specs.Parts.{part_remarks}

-- the place of a remark's kind among those of a statement
abbrev pub kind_of : Remark → ℕ
kind_of NeverReached = 0
kind_of (Unset variable) = 1
kind_of (Computed bit) = 2
kind_of (VeryBusy bit) = 3
kind_of (Dead variable) = 4

abbrev pub is_of : (point kind : ℕ) → PlacedRemark → Bool
is_of point kind placed = placed.point == point && kind_of placed.remark == kind

-- The remarks of all parts are those of the report, point by point and kind by kind, and in one kind part by part.
abbrev pub PartsAreTheReport : Type 0
PartsAreTheReport = (program : Program) (known : Knowledge) (count : ℕ) → IsSound program → 1 ≤ count → (point kind : ℕ)
    → flat_map (λ part. filter (is_of point kind) (part_remarks program known count part)) (range_with_len 1 count)
    ≡ filter (is_of point kind) (remarks_of program known)
