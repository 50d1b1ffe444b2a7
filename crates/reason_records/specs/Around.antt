-- What stands around a remark, as numbers, and why a point is doubtful.
use Rattle.std.specs.Prelude.{◌≡◌, ◌<◌, ◌+◌, ◌==◌, ◌↔◌, ◌⊎◌, ℕ, Bool, true, Option, Some, None, MatchOption, if◌then◌else◌}
use Rattle.std.specs.Prelude.{List, [], ◌∷◌, ◌++◌, length, map, option_to_list}
use Rattle.flow_graph.specs.Analyses.{shape_of}
use Rattle.flow_graph.specs.Points.{point_count}
use Rattle.flow_graph.specs.Runs.{IsDoubtful}
use Rattle.flow_graph.specs.Universes.{expressions}
use Rattle.flow_reasons.specs.Doubts.{IsDoubtOrigin}
use Rattle.flow_reasons.specs.Holders.{HoldsValue}
use Rattle.flow_reasons.specs.Lists.{AreAll}
use Rattle.flow_reasons.specs.Meetings.{IsLastEvaluation, IsNextEvaluation, IsNextWrite, MayEndUnwritten}
use Rattle.flow_reasons.specs.Reached.{IsLastReached, NoneReachedFrom}
use Rattle.flow_reports.specs.declared.remark.Remark.{Remark}
use Rattle.flow_reports.specs.declared.remark.Remark.TheVariants.{NeverReached, Unset, Computed, VeryBusy, Dead}
use Rattle.tac_program.specs.Programs.{Program}
use Rattle.flow_records.specs.Faults.{IsMemoryFault}
use Rattle.flow_records.specs.Rooms.{NeedsRoom}
use Rattle.reason_records.specs.declared.around.NumberedNearby.{NumberedNearby}
use Rattle.flow_records.specs.declared.fault.Fault.{Fault}
use Rattle.flow_records.specs.declared.fault.Fault.TheVariants as fault
use Rattle.flow_records.specs.declared.remarks.NumberedRemark.{NumberedRemark}

-- a statement that stands around a remark, and a variable that does; the largest number of 32 bits stands for none
abbrev pub point_nearby : ℕ → ℕ → NumberedNearby
point_nearby kind point = record { kind = kind; point = point; variable = 4294967295 }

abbrev pub variable_nearby : ℕ → ℕ → NumberedNearby
variable_nearby kind variable = record { kind = kind; point = 4294967295; variable = variable }

-- the remark of a kind that names a variable or an expression; none where there is no such kind
abbrev pub remark_named : ℕ → ℕ → Option Remark
remark_named kind name =
    if kind == 0 then Some NeverReached
    else if kind == 1 then Some (Unset name)
    else if kind == 2 then Some (Computed name)
    else if kind == 3 then Some (VeryBusy name)
    else if kind == 4 then Some (Dead name)
    else None

-- The program has the point and what the remark names; and behind an assignment to a variable it has one more.
abbrev pub HasRemarked : Program → ℕ → Remark → Type 0
HasRemarked program point NeverReached = point < point_count program
HasRemarked program point (Unset variable) = (point < point_count program) × (variable < length program.variable_names)
HasRemarked program point (Computed expression) = (point < point_count program) × (expression < length (expressions program))
HasRemarked program point (VeryBusy expression) = (point < point_count program) × (expression < length (expressions program))
HasRemarked program point (Dead variable) = (point + 1 < point_count program) × (variable < length program.variable_names)

-- The statements that may write the variable next, behind the assignment; then, where `main` may end without such a write, that it may.
pub record AreNextWrites (program : Program) (variable point : ℕ) (nearby : List NumberedNearby) : Type 0 where
  pub writes : List ℕ
  pub are_writes : AreAll (IsNextWrite program variable point) writes
  pub may_end : Bool
  pub is_end : (may_end ≡ true) ↔ MayEndUnwritten program variable point
  pub same : nearby ≡ map (point_nearby 0) writes ++ (if may_end then point_nearby 1 4294967295 ∷ [] else [])

-- The statements that may have evaluated the expression last; then the variables that hold its value.
pub record AreLastEvaluations (program : Program) (expression point : ℕ) (nearby : List NumberedNearby) : Type 0 where
  pub evaluations : List ℕ
  pub are_evaluations : AreAll (IsLastEvaluation program expression point) evaluations
  pub holders : List ℕ
  pub are_holders : AreAll (HoldsValue program expression point) holders
  pub same : nearby ≡ map (point_nearby 2) evaluations ++ map (variable_nearby 3) holders

-- The statements that may evaluate the expression next.
pub record AreNextEvaluations (program : Program) (expression point : ℕ) (nearby : List NumberedNearby) : Type 0 where
  pub evaluations : List ℕ
  pub are_evaluations : AreAll (IsNextEvaluation program expression point) evaluations
  pub same : nearby ≡ map (point_nearby 4) evaluations

-- The nearest point before, in its procedure, to which a valid path leads, if there is one.
pub record IsNearestReached (program : Program) (point : ℕ) (nearby : List NumberedNearby) : Type 0 where
  pub found : Option ℕ
  pub is_found : MatchOption found (NoneReachedFrom program point 0) (IsLastReached program point)
  pub same : nearby ≡ map (point_nearby 5) (option_to_list found)

-- around a remark at a point; of a variable that may not be set, a path tells more (`Why.antt`)
abbrev pub AreAroundRemark : Program → ℕ → Remark → List NumberedNearby → Type 0
AreAroundRemark program point NeverReached nearby = IsNearestReached program point nearby
AreAroundRemark program point (Unset variable) nearby = nearby ≡ []
AreAroundRemark program point (Computed expression) nearby = AreLastEvaluations program expression point nearby
AreAroundRemark program point (VeryBusy expression) nearby = AreNextEvaluations program expression point nearby
AreAroundRemark program point (Dead variable) nearby = AreNextWrites program variable point nearby

-- The numbers are of a remark, and the program has what it names.
pub record IsRemarkIn (program : Program) (numbered : NumberedRemark) (remark : Remark) : Type 0 where
  pub is_remark : remark_named numbered.kind numbered.name ≡ Some remark
  pub there : HasRemarked program numbered.point remark

-- All that stands around the remark of these numbers, kind by kind.
pub record AreAround (program : Program) (numbered : NumberedRemark) (nearby : List NumberedNearby) : Type 0 where
  pub remark : Remark
  pub is_remark : IsRemarkIn program numbered remark
  pub are : AreAroundRemark program numbered.point remark nearby

-- why numbers are of no remark; want of memory is no fact of them
abbrev pub IsRemarkFault : NumberedRemark → Program → Fault → Type 0
IsRemarkFault numbered program fault.BadRange = (remark : Remark) → ¬ (IsRemarkIn program numbered remark)
IsRemarkFault numbered program fault = IsMemoryFault fault

-- why nothing is told in room for so many
abbrev pub IsAroundFault : NumberedRemark → ℕ → ℕ → Program → Fault → Type 0
IsAroundFault numbered room size program fault.BadRoom = NeedsRoom (AreAround program numbered) room size
IsAroundFault numbered room size program fault = IsRemarkFault numbered program fault

-- The point makes the other one doubtful; or that one is not doubtful, and the largest number of 32 bits stands for none.
abbrev pub TellsDoubt : Program → ℕ → ℕ → Type 0
TellsDoubt program point origin = IsDoubtOrigin program point origin ⊎ ((origin ≡ 4294967295) × (¬ (IsDoubtful (shape_of program) point)))

-- why no doubt is told of a point
abbrev pub IsPointFault : ℕ → Program → Fault → Type 0
IsPointFault point program fault.BadRange = ¬ (point < point_count program)
IsPointFault point program fault = IsMemoryFault fault
