-- What stands around remarks in lines of JSON with paths: of each kind of remark its sets, each of which is exact.
use Rattle.std.specs.Prelude.{◌≡◌, ◌↔◌, ℕ, Bool, true, List, [], ◌++◌, map, Option, Some, None, MatchOption, Contains, codes, decimal}
use Rattle.flow_graph.specs.Edges.{edges_from}
use Rattle.flow_graph.specs.declared.edge.Edge.{Edge}
use Rattle.flow_reasons.specs.Holders.{HoldsValue}
use Rattle.flow_reasons.specs.Lists.{AreAll}
use Rattle.flow_reasons.specs.Meetings.{IsLastEvaluation, IsNextEvaluation, IsNextWrite, MayEndUnwritten}
use Rattle.flow_reasons.specs.Reached.{IsLastReached, NoneReachedFrom}
use Rattle.flow_reports.specs.Reports.{Knowledge, remarks_at}
use Rattle.flow_reports.specs.declared.remark.Remark.{Remark}
use Rattle.flow_reports.specs.declared.remark.Remark.TheVariants.{NeverReached, Unset, Computed, VeryBusy, Dead}
use Rattle.flow_texts.specs.Tables.{variable_text}
use Rattle.flow_views.specs.Json.{array, boolean, edge_object}
use Rattle.flow_views.specs.Views.{shown_points}
use Rattle.flow_views.specs.declared.view.View.{View}
use Rattle.tac_program.specs.Programs.{Program}
use Rattle.text_pieces.specs.Strings.{quoted}

-- The sets by point, and by the variable or the expression that a remark names: of a dead assignment the writes that are met first behind it,
-- and whether some way ends without one; of an expression that is computed already the evaluations that were met last, and the variables that
-- hold its value; of a very busy one the evaluations that are met first; of a line that is never reached the nearest point before it that is,
-- and the edges out of that.
pub record Sets : Type 0 where
  pub next_writes : ℕ → ℕ → List ℕ
  pub may_end_unwritten : ℕ → ℕ → Bool
  pub last_evaluations : ℕ → ℕ → List ℕ
  pub holders : ℕ → ℕ → List ℕ
  pub next_evaluations : ℕ → ℕ → List ℕ
  pub last_reached : ℕ → Option ℕ
  pub edges : ℕ → List Edge

-- numbers as an array, and names of variables
abbrev pub numbers : List ℕ → List ℕ
numbers list = array (map decimal list)

abbrev pub names : Program → List ℕ → List ℕ
names program list = array (map (λ variable. quoted (variable_text program variable)) list)

abbrev pub number_or_null : Option ℕ → List ℕ
number_or_null (Some number) = decimal number
number_or_null None = codes "null"

-- the fields of a remark's sets
abbrev pub set_fields : Sets → Program → ℕ → Remark → List ℕ
set_fields sets program point NeverReached =
    codes ",\"last_reached\":" ++ number_or_null (sets.last_reached point) ++ codes ",\"edges\":" ++ array (map edge_object (sets.edges point))
set_fields sets program point (Unset variable) = []
set_fields sets program point (Computed bit) =
    codes ",\"last_evaluations\":" ++ numbers (sets.last_evaluations point bit) ++ codes ",\"holders\":" ++ names program (sets.holders point bit)
set_fields sets program point (VeryBusy bit) = codes ",\"next_evaluations\":" ++ numbers (sets.next_evaluations point bit)
set_fields sets program point (Dead variable) =
    codes ",\"next_writes\":" ++ numbers (sets.next_writes point variable)
    ++ codes ",\"may_end_unwritten\":" ++ boolean (sets.may_end_unwritten point variable)

-- the nearest point before one that is reached, and its edges: none where no point before it is reached
abbrev pub AreLastReached : Program → ℕ → Option ℕ → List Edge → Type 0
AreLastReached program point last edges =
    MatchOption last (NoneReachedFrom program point 0 × (edges ≡ []))
    (λ found. IsLastReached program point found × (edges ≡ edges_from program found))

-- The sets of a remark are exact.
abbrev pub AreExactAt : Sets → Program → ℕ → Remark → Type 0
AreExactAt sets program point NeverReached = AreLastReached program point (sets.last_reached point) (sets.edges point)
AreExactAt sets program point (Unset variable) = Unit {0}
AreExactAt sets program point (Computed bit) =
    AreAll (IsLastEvaluation program bit point) (sets.last_evaluations point bit)
    × AreAll (HoldsValue program bit point) (sets.holders point bit)
AreExactAt sets program point (VeryBusy bit) = AreAll (IsNextEvaluation program bit point) (sets.next_evaluations point bit)
AreExactAt sets program point (Dead variable) =
    AreAll (IsNextWrite program variable point) (sets.next_writes point variable)
    × ((sets.may_end_unwritten point variable ≡ true) ↔ MayEndUnwritten program variable point)

-- They are so of each remark that is shown.
abbrev pub AreExact : Program → Knowledge → View → Sets → Type 0
AreExact program known view sets =
    (point : ℕ) (remark : Remark) → Contains (shown_points program view) point → Contains (remarks_at program known point) remark
    → AreExactAt sets program point remark
