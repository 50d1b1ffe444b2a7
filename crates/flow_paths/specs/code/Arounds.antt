-- What the code keeps of what stands around remarks, and where that of a point stands.
use Rattle.std.specs.Prelude.{◌≡◌, ℕ, ◌+◌, ◌-◌, ◌<◌, Bool, true, false, List, [], ◌∷◌, map, length, All, Option, Some, None, if◌then◌else◌}
use Rattle.std.specs.Prelude.{nat_eq, slice_index_or}
use Rattle.flow_graph.specs.Edges.{edges_from}
use Rattle.flow_graph.specs.Points.{point_count}
use Rattle.flow_graph.specs.declared.edge.Edge.{Edge}
use Rattle.flow_reports.specs.Reports.{IsKnowledge, Knowledge}
use Rattle.flow_reports.specs.code.Findings.{IsRemarkIn}
use Rattle.flow_reports.specs.declared.listed.PlacedRemark.{PlacedRemark}
use Rattle.flow_reports.specs.declared.remark.Remark.{Remark}
use Rattle.flow_reports.specs.declared.remark.Remark.TheVariants.{NeverReached, Unset, Computed, VeryBusy, Dead}
use Rattle.flow_views.specs.declared.view.View.{View}
use Rattle.tac_program.specs.Programs.{Program}
use Rattle.worklist.specs.Groups.{AreGroups}
use Rattle.flow_paths.specs.Sets.{AreExact, AreExactAt, Sets}
use Rattle.flow_paths.specs.code.UnsetPaths.{numbers_of}
use Rattle.flow_paths.specs.declared.around.Around.{Around}
use Rattle.flow_paths.specs.declared.facts.Facts.{Facts}

-- the edges out of a point, where there is one
abbrev pub edges_if : Program → Option ℕ → List Edge
edges_if program (Some point) = edges_from program point
edges_if program None = []

-- What remarks are asked about is there: the point behind the statement, and what the remark names.
pub record IsAskable (program : Program) (placed : PlacedRemark) : Type 0 where
  pub next : placed.point + 1 < point_count program
  pub named : IsRemarkIn program placed.remark

-- what stands around one remark
pub record Kept : Type 0 where
  pub met : List ℕ
  pub holders : List ℕ
  pub may_end : Bool
  pub last : Option ℕ
  pub edges : List Edge

abbrev pub nothing : Kept
nothing = record { met = []; holders = []; may_end = false; last = None; edges = [] }

abbrev pub kept_of : Around → Kept
kept_of around = record {
  met = around.met.items;
  holders = around.holders.items;
  may_end = around.may_end;
  last = around.last;
  edges = around.edges.items;
}

-- what is read of it
abbrev pub read_of : Facts → Kept
read_of facts = record {
  met = facts.met.now;
  holders = facts.holders.now;
  may_end = facts.may_end;
  last = facts.last;
  edges = facts.edges.now;
}

-- the sets of what is kept by point and remark
abbrev pub sets_of : (ℕ → Remark → Kept) → Sets
sets_of at = record {
  next_writes = λ point variable. (at point (Dead variable)).met;
  may_end_unwritten = λ point variable. (at point (Dead variable)).may_end;
  last_evaluations = λ point bit. (at point (Computed bit)).met;
  holders = λ point bit. (at point (Computed bit)).holders;
  next_evaluations = λ point bit. (at point (VeryBusy bit)).met;
  last_reached = λ point. (at point NeverReached).last;
  edges = λ point. (at point NeverReached).edges;
}

-- What is kept of a remark is exact.
abbrev pub IsExactFor : Program → PlacedRemark → Kept → Type 0
IsExactFor program placed kept = AreExactAt (sets_of (λ point remark. kept)) program placed.point placed.remark

abbrev pub IsAround : Program → Around → Type 0
IsAround program around = IsExactFor program around.placed (kept_of around)

-- whether two remarks are the same
abbrev pub same_remark : Remark → Remark → Bool
same_remark NeverReached NeverReached = true
same_remark (Unset v) (Unset w) = nat_eq v w
same_remark (Computed v) (Computed w) = nat_eq v w
same_remark (VeryBusy v) (VeryBusy w) = nat_eq v w
same_remark (Dead v) (Dead w) = nat_eq v w
same_remark _ _ = false

-- the remarks around which it stands, the remark of a number, and what stands around that
abbrev pub remarks_in : List Around → List PlacedRemark
remarks_in arounds = map (λ around. around.placed) arounds

abbrev pub remark_at : List Around → ℕ → PlacedRemark
remark_at arounds place = slice_index_or (remarks_in arounds) place (record { point = 0; remark = NeverReached })

abbrev pub kept_at : List Around → ℕ → Kept
kept_at arounds place = slice_index_or (map kept_of arounds) place nothing

-- what stands around the first of some remarks, by number, that is this one
abbrev pub kept_among : List Around → List ℕ → Remark → Kept
kept_among arounds [] remark = nothing
kept_among arounds (place ∷ places) remark =
    if same_remark (remark_at arounds place).remark remark then kept_at arounds place else kept_among arounds places remark

-- remarks with what stands around them, and their numbers by point
pub record AroundTable : Type 0 where
  pub arounds : List Around
  pub starts : List ℕ
  pub places : List ℕ

-- what stands around a remark on a point
abbrev pub around_at : AroundTable → ℕ → Remark → Kept
around_at table point remark = kept_among table.arounds (numbers_of table.starts table.places point) remark

-- The numbers are by the points.
abbrev pub AreByPoint : AroundTable → Type 0
AreByPoint table = AreGroups (map (λ placed. placed.point) (remarks_in table.arounds)) (length table.starts - 1) table.starts table.places

-- There is what stands around each of these remarks, which is exact; it is found by the points of the program.
pub record AreAroundsOf (program : Program) (remarks : List PlacedRemark) (table : AroundTable) : Type 0 where
  pub count : length table.starts ≡ point_count program + 1
  pub exact : All (IsAround program) table.arounds
  pub complete : remarks_in table.arounds ≡ remarks
  pub by_point : AreByPoint table

-- The table has the sets of all that is known of what is shown.
abbrev pub AreSetsOf : Program → View → AroundTable → Type 0
AreSetsOf program view table = (known : Knowledge) → IsKnowledge program known → AreExact program known view (sets_of (around_at table))
