-- The rounds as lines of JSON: the program with the names of its bits, as where changes are told; what is shown; then of each analysis that is
-- chosen a line with the order and with what is known before the first round, and a line a round; and last a line that says that all are there.
use Rattle.std.specs.Prelude.{◌≡◌, ℕ, ◌+◌, Bool, true, false, not, List, [], ◌∷◌, ◌++◌, map, flat_map, filter, Some, codes, decimal}
use Rattle.std.specs.List.{range_with_len}
use Rattle.flow_graph.specs.Analyses.{is_must}
use Rattle.flow_graph.specs.Points.{end_place, entry_point}
use Rattle.flow_graph.specs.declared.analysis.Analysis.{Analysis}
use Rattle.flow_views.specs.Json.{array, end_line}
use Rattle.flow_views.specs.Views.{analysis_name, chosen_analyses, points_in, procedure_name}
use Rattle.flow_views.specs.declared.view.Chosen.{Chosen}
use Rattle.flow_views.specs.declared.view.View.{View}
use Rattle.json_texts.specs.Changes.{change_fields, named_program_line, numbers_in}
use Rattle.tac_program.specs.Programs.{Program}
use Rattle.text_pieces.specs.Strings.{quoted}
use Rattle.flow_rounds.specs.Steps.{IsIteration, IsLast, Iteration, changed_points, computes, set_after}

-- which procedure it is, its first point, how many points it has, and which analyses are told
abbrev pub steps_line : Program → Chosen → ℕ → List ℕ
steps_line program chosen procedure =
    codes "{\"type\":\"steps\",\"procedure\":" ++ quoted (procedure_name program procedure)
    ++ codes ",\"first\":" ++ decimal (entry_point program procedure)
    ++ codes ",\"points\":" ++ decimal (end_place program procedure + 1)
    ++ codes ",\"analyses\":" ++ array (map (λ analysis. quoted (analysis_name analysis)) (chosen_analyses chosen)) ++ codes "}\n"

-- what the points that are computed have before the first round: nothing, or everything
abbrev pub beginning_name : Bool → List ℕ
beginning_name false = codes "nothing"
beginning_name true = codes "everything"

-- a point that is not computed, with its set
abbrev pub known_object : Iteration → ℕ → List ℕ
known_object iteration point =
    codes "{\"point\":" ++ decimal point
    ++ codes ",\"bits\":" ++ numbers_in iteration.program iteration.analysis (set_after iteration 0 point) ++ codes "}"

-- the points of the procedure that are not computed
abbrev pub known_points : Iteration → List ℕ
known_points iteration = filter (λ point. not (computes iteration point)) (points_in iteration.program iteration.procedure)

abbrev pub start_line : Iteration → List ℕ
start_line iteration =
    codes "{\"type\":\"start\",\"analysis\":" ++ quoted (analysis_name iteration.analysis)
    ++ codes ",\"begin\":" ++ quoted (beginning_name (is_must iteration.analysis))
    ++ codes ",\"order\":" ++ array (map decimal iteration.order)
    ++ codes ",\"known\":" ++ array (map (known_object iteration) (known_points iteration)) ++ codes "}\n"

-- what the round behind so many rounds changes at a point
abbrev pub change_object : Iteration → ℕ → ℕ → List ℕ
change_object iteration rounds point =
    codes "{\"point\":" ++ decimal point ++ codes ","
    ++ change_fields iteration.program iteration.analysis (set_after iteration rounds point) (set_after iteration (rounds + 1) point)
    ++ codes "}"

-- the round behind so many rounds
abbrev pub round_line : Iteration → ℕ → List ℕ
round_line iteration rounds =
    codes "{\"type\":\"round\",\"analysis\":" ++ quoted (analysis_name iteration.analysis)
    ++ codes ",\"round\":" ++ decimal (rounds + 1)
    ++ codes ",\"changed\":" ++ array (map (change_object iteration rounds) (changed_points iteration rounds)) ++ codes "}\n"

-- the lines of an analysis whose last round is the one behind so many rounds
abbrev pub iteration_lines : Iteration → ℕ → List ℕ
iteration_lines iteration last = start_line iteration ++ flat_map (round_line iteration) (range_with_len 0 (last + 1))

-- The text tells the rounds of an analysis in a procedure.
pub record IsAnalysisText (program : Program) (procedure : ℕ) (analysis : Analysis) (text : List ℕ) : Type 0 where
  pub iteration : Iteration
  pub of_program : iteration.program ≡ program
  pub of_procedure : iteration.procedure ≡ procedure
  pub of_analysis : iteration.analysis ≡ analysis
  pub is_iteration : IsIteration iteration
  pub last : ℕ
  pub is_last : IsLast iteration last
  pub is_text : text ≡ iteration_lines iteration last

-- The text tells so each of some analyses, in their order.
abbrev pub AreAnalysisTexts : Program → ℕ → List Analysis → List ℕ → Type 0
AreAnalysisTexts program procedure [] text = text ≡ []
AreAnalysisTexts program procedure (analysis ∷ others) text =
    (front : List ℕ) × (rest : List ℕ) × IsAnalysisText program procedure analysis front
    × AreAnalysisTexts program procedure others rest × (text ≡ front ++ rest)

-- The text tells the rounds of the chosen analyses in the procedure that is shown.
pub record IsStepText (program : Program) (view : View) (text : List ℕ) : Type 0 where
  pub procedure : ℕ
  pub is_shown : view.procedure ≡ Some procedure
  pub lines : List ℕ
  pub are_lines : AreAnalysisTexts program procedure (chosen_analyses view.facts) lines
  pub is_text : text ≡ named_program_line program ++ steps_line program view.facts procedure ++ lines ++ end_line program view

-- the most points of a procedure whose rounds are shown
abbrev pub most_points : ℕ
most_points = 200
