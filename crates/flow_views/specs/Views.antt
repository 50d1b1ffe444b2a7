-- What is shown of a program, in both texts: which procedures and points, which analyses, what a statement and a label are called, and how a
-- test comes out.
use Rattle.std.specs.Prelude.{ℕ, suc, ◌+◌, Bool, not, ◌&&◌, List, [], ◌∷◌, flat_map, length, Option, Some, None, if◌then◌else◌, codes, ◌==◌}
use Rattle.std.specs.Prelude.{option_and_then, option_map, slice_get, unwrap_or, nat_eq}
use Rattle.std.specs.List.{filter, range_with_len}
use Rattle.flow_graph.specs.declared.analysis.TheConstants.Analysis as all
use Rattle.flow_graph.specs.Edges.{edges_from}
use Rattle.flow_graph.specs.Points.{end_place, entry_point, kind_at, place_of, point_count, procedure_at}
use Rattle.flow_graph.specs.declared.analysis.Analysis.{Analysis}
use Rattle.flow_graph.specs.declared.analysis.Analysis.TheVariants.{Reach, Live, Avail, Busy}
use Rattle.flow_team.specs.Tables.{Facts}
use Rattle.flow_reports.specs.Reports.{Knowledge, dead_at, unset_at}
use Rattle.tac_listing.specs.Listings.{names_in}
use Rattle.tac_program.specs.Programs.{Program}
use Rattle.tac_program.specs.Names.{Names, name_at}
use Rattle.tac_program.specs.declared.program.Label.{Label}
use Rattle.tac_program.specs.declared.program.StmtKind.{StmtKind}
use Rattle.tac_program.specs.declared.program.StmtKind.TheVariants as kind
use Rattle.text_pieces.specs.code.Lists.{some_stand}
use Rattle.flow_views.specs.declared.marks.PointMarks.{PointMarks}
use Rattle.flow_views.specs.declared.view.Chosen.{Chosen}
use Rattle.flow_views.specs.declared.view.View.{View}

-- the procedures that are shown: the one that is named, or all
abbrev pub shown_procedures : Program → View → List ℕ
shown_procedures program view = elim view.procedure [
  | Some procedure ↦ procedure ∷ []
  | None ↦ range_with_len 0 (length program.procedures)
]

-- the points of a procedure, from its entry to its end
abbrev pub points_in : Program → ℕ → List ℕ
points_in program procedure = range_with_len (entry_point program procedure) (suc (end_place program procedure))

-- the points that are shown
abbrev pub shown_points : Program → View → List ℕ
shown_points program view = flat_map (points_in program) (shown_procedures program view)

-- the first point that is shown, of one procedure or of all
abbrev pub first_shown : Program → Option ℕ → ℕ
first_shown program (Some procedure) = entry_point program procedure
first_shown program None = 0

-- and the point behind the last
abbrev pub end_shown : Program → Option ℕ → ℕ
end_shown program (Some procedure) = entry_point program procedure + suc (end_place program procedure)
end_shown program None = point_count program

-- whether an analysis's facts are shown
abbrev pub is_chosen : Chosen → Analysis → Bool
is_chosen chosen Reach = chosen.reach
is_chosen chosen Live = chosen.live
is_chosen chosen Avail = chosen.avail
is_chosen chosen Busy = chosen.busy

-- the analysis where its facts are shown
abbrev pub analysis_if : Bool → Analysis → List Analysis
analysis_if is analysis = if is then analysis ∷ [] else []

-- the analyses whose facts are shown, in the order of their numbers
abbrev pub chosen_analyses : Chosen → List Analysis
chosen_analyses chosen = filter (is_chosen chosen) all.ALL

abbrev pub analysis_name : Analysis → List ℕ
analysis_name Reach = codes "reach"
analysis_name Live = codes "live"
analysis_name Avail = codes "avail"
analysis_name Busy = codes "busy"

abbrev pub known_facts : Knowledge → Analysis → Facts
known_facts known Reach = known.reach
known_facts known Live = known.live
known_facts known Avail = known.avail
known_facts known Busy = known.busy

abbrev pub procedure_name : Program → ℕ → List ℕ
procedure_name program procedure = name_at program.procedure_names procedure

abbrev pub names_at : Program → ℕ → Names
names_at program point = names_in program (procedure_at program point)

-- the labels of a procedure, those of a place, and those of a point
abbrev pub labels_in : Program → ℕ → List Label
labels_in program procedure = unwrap_or (option_map (λ p. p.labels) (slice_get program.procedures procedure)) []

abbrev pub labels_of_place : ℕ → List Label → List Label
labels_of_place place labels = filter (λ label. label.place == place) labels

abbrev pub labels_at : Program → ℕ → List Label
labels_at program point = labels_of_place (place_of program point).place (labels_in program (procedure_at program point))

abbrev pub label_name : Program → ℕ → Label → List ℕ
label_name program point label = name_at (names_at program point).labels label.name

-- What is marked of a point: whether a valid path leads there, and if so, whether a variable may be unset there and whether an assignment is dead;
-- and whether the point is doubtful.
abbrev pub marks_at : Program → Knowledge → ℕ → PointMarks
marks_at program known point = record {
  reached = known.reach.has_path point;
  unset = known.reach.has_path point && some_stand (unset_at program known point);
  dead = known.reach.has_path point && some_stand (dead_at program known point);
  doubtful = known.doubtful point;
}

-- What a test says where its jump is taken, and where it is not; other statements say nothing.
abbrev pub outcome_of : StmtKind → Bool → Option Bool
outcome_of (kind.Copy x y) jumps = None
outcome_of (kind.Unary x op y) jumps = None
outcome_of (kind.Binary op x y z) jumps = None
outcome_of (kind.Goto label) jumps = None
outcome_of (kind.If y label) jumps = Some jumps
outcome_of (kind.IfFalse y label) jumps = Some (not jumps)
outcome_of (kind.IfCompare op label y z) jumps = Some jumps
outcome_of (kind.Call callees) jumps = None
outcome_of kind.Return jumps = None
outcome_of (kind.Read x) jumps = None
outcome_of (kind.Print y) jumps = None
outcome_of kind.Skip jumps = None

-- The outcome of a test by which control goes from a point to another: none where both outcomes lead to one point.
abbrev pub outcome : Program → ℕ → ℕ → Option Bool
outcome program source target =
    if nat_eq (length (edges_from program source)) 2
    then option_and_then (λ k. outcome_of k (not (nat_eq target (suc source)))) (kind_at program source) else None
