-- The assignments that are not called dead because of doubt: the variable is not live behind them, but what follows may never end. Each is
-- told with a point from which no valid path leads to the end of `main`, and to which some path from behind the assignment leads.
use Rattle.std.specs.Prelude.{◌≡◌, ℕ, suc, ◌+◌, ◌-◌, ◌&&◌, not, List, [], ◌∷◌, ◌++◌, map, flat_map, All, Some, None, if◌then◌else◌, codes, decimal}
use Rattle.std.specs.List.{range_with_len}
use Rattle.flow_graph.specs.Points.{end_place, entry_point, point_count}
use Rattle.flow_reasons.specs.Doubts.{IsDoubtOrigin}
use Rattle.flow_reports.specs.Reports.{Knowledge, assigned_at}
use Rattle.flow_texts.specs.Tables.{line_at, variable_text}
use Rattle.flow_views.specs.declared.view.View.{View}
use Rattle.tac_program.specs.Programs.{Program}
use Rattle.text_pieces.specs.Strings.{quoted}
use Rattle.flow_paths.specs.declared.doubts.Doubt.{Doubt}

-- the assigned variable, where a valid path leads to the assignment, the point behind it is doubtful, and the variable is not live there
abbrev pub doubted_at : Program → Knowledge → ℕ → List ℕ
doubted_at program known point =
    elim (assigned_at program point) [
      | Some variable ↦
          if known.reach.has_path point && (known.doubtful (suc point) && not (known.live.contains (suc point) variable)) then variable ∷ [] else []
      | None ↦ []
    ]

-- such an assignment: its point and its variable
abbrev pub Assignment : Type 0
Assignment = ℕ × ℕ

abbrev pub assignments_at : Program → Knowledge → ℕ → List Assignment
assignments_at program known point = map (λ variable. (point, variable)) (doubted_at program known point)

-- those at so many points from one on, in order
abbrev pub assignments_from : Program → Knowledge → ℕ → ℕ → List Assignment
assignments_from program known first count = flat_map (assignments_at program known) (range_with_len first count)

-- the first point that is shown, of one procedure or of all, and the point behind the last
abbrev pub shown_from : Program → View → ℕ
shown_from program view = elim view.procedure [ Some procedure ↦ entry_point program procedure | None ↦ 0 ]

abbrev pub shown_until : Program → View → ℕ
shown_until program view = elim view.procedure [
  | Some procedure ↦ entry_point program procedure + suc (end_place program procedure)
  | None ↦ point_count program
]

-- those that are shown
abbrev pub assignments_shown : Program → Knowledge → View → List Assignment
assignments_shown program known view =
    assignments_from program known (shown_from program view) (shown_until program view - shown_from program view)

abbrev pub assignment_of : Doubt → Assignment
assignment_of doubt = (doubt.point, doubt.variable)

-- doubt comes from there to the point behind the assignment
abbrev pub HasOrigin : Program → Doubt → Type 0
HasOrigin program doubt = IsDoubtOrigin program (suc doubt.point) doubt.origin

-- The doubts are of these assignments, all of them and no others, each with a point from which its doubt comes.
pub record AreDoubts (program : Program) (known : Knowledge) (view : View) (doubts : List Doubt) : Type 0 where
  pub all : map assignment_of doubts ≡ assignments_shown program known view
  pub origins : All (HasOrigin program) doubts

abbrev pub doubt_line : Program → Doubt → List ℕ
doubt_line program doubt =
    codes "{\"type\":\"doubt\",\"point\":" ++ decimal doubt.point ++ codes ",\"line\":" ++ decimal (line_at program doubt.point)
    ++ codes ",\"variable\":" ++ quoted (variable_text program doubt.variable) ++ codes ",\"doubt\":" ++ decimal doubt.origin ++ codes "}\n"
