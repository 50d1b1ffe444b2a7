-- Lines of JSON behind the first one, with the remarks in a form of their own or as they are told.
use Rattle.std.specs.Prelude.{ℕ, List, ◌++◌, flat_map, Option}
use Rattle.flow_reports.specs.Reports.{Knowledge, remarks_at}
use Rattle.flow_reports.specs.declared.remark.Remark.{Remark}
use Rattle.flow_views.specs.Json.{end_line, point_line, remark_object}
use Rattle.flow_views.specs.Views.{shown_points}
use Rattle.flow_views.specs.declared.view.View.{View}
use Rattle.json_texts.specs.Changes.{changed_point_line, changed_remarks}
use Rattle.tac_program.specs.Programs.{Program}

-- the remarks at all points that are shown
abbrev pub remarks_with : (Program → ℕ → Remark → List ℕ) → Program → Knowledge → View → List ℕ
remarks_with object program known view =
    flat_map (λ point. flat_map (object program point) (remarks_at program known point)) (shown_points program view)

-- with sets: the points and the remarks
abbrev pub sets_with : (Program → ℕ → Remark → List ℕ) → Program → Knowledge → View → List ℕ
sets_with object program known view =
    flat_map (point_line program known view.facts) (shown_points program view) ++ remarks_with object program known view

-- with differences: the points and the remarks
abbrev pub differences_with : (ℕ → Option ℕ) → (Program → ℕ → Remark → List ℕ) → Program → Knowledge → View → List ℕ
differences_with origins object program known view =
    flat_map (changed_point_line origins program known view.facts) (shown_points program view) ++ remarks_with object program known view

-- all lines but the first
abbrev pub set_lines : Program → Knowledge → View → List ℕ
set_lines program known view = sets_with remark_object program known view ++ end_line program view

abbrev pub difference_lines : (ℕ → Option ℕ) → Program → Knowledge → View → List ℕ
difference_lines origins program known view =
    flat_map (changed_point_line origins program known view.facts) (shown_points program view)
    ++ flat_map (changed_remarks program known view.facts) (shown_points program view) ++ end_line program view
