-- What is told, by the columns of the code.
use Rattle.std.specs.Prelude.{◌≡◌, ◌<◌, ℕ, suc, ◌+◌, ◌-◌, Bool, ◌||◌, List, [], ◌++◌, map, flat_map, filter, codes, decimal}
use Rattle.std.specs.List.{list_any, range_with_len}
use Rattle.flow_graph.specs.Analyses.{is_must}
use Rattle.flow_graph.specs.Points.{end_place, entry_point}
use Rattle.flow_graph.specs.declared.analysis.Analysis.{Analysis}
use Rattle.tac_program.specs.Programs.{Program}
use Rattle.flow_graph.specs.Universes.{bits}
use Rattle.flow_rounds.specs.Steps.{IsLast, Iteration, changed_points}
use Rattle.flow_rounds.specs.code.Frames.{AreColumns, Framed, bit_in, iteration_of}
use Rattle.flow_rounds.specs.declared.point_range.PointRange.{PointRange}
use Rattle.flow_views.specs.Json.{array}
use Rattle.flow_views.specs.Views.{analysis_name, procedure_name}
use Rattle.json_texts.specs.Changes.{change_fields, numbers_in}
use Rattle.point_sets.specs.Changes.{beyond}
use Rattle.text_pieces.specs.Strings.{quoted}
use Rattle.flow_steps.specs.StepTexts.{IsAnalysisText, beginning_name, iteration_lines, round_line}

-- the points of a range
abbrev pub points_of : PointRange → List ℕ
points_of points = range_with_len points.first (points.end - points.first)

-- whether the set of a point differs in two columns, at a bit and at any
abbrev pub differs_at : Framed → List (List Bool) → List (List Bool) → ℕ → ℕ → Bool
differs_at framed old new point bit =
    beyond (bit_in framed.points new point) (bit_in framed.points old point) bit
    || beyond (bit_in framed.points old point) (bit_in framed.points new point) bit

abbrev pub differs : Framed → List (List Bool) → List (List Bool) → ℕ → Bool
differs framed old new point = list_any (differs_at framed old new point) (range_with_len 0 (bits framed.program framed.analysis))

-- what changed at a point
abbrev pub change_told : Framed → List (List Bool) → List (List Bool) → ℕ → List ℕ
change_told framed old new point =
    codes "{\"point\":" ++ decimal point ++ codes ","
    ++ change_fields framed.program framed.analysis (bit_in framed.points old point) (bit_in framed.points new point) ++ codes "}"

-- the line of a round
abbrev pub round_told : Framed → List (List Bool) → List (List Bool) → ℕ → List ℕ
round_told framed old new rounds =
    codes "{\"type\":\"round\",\"analysis\":" ++ quoted (analysis_name framed.analysis)
    ++ codes ",\"round\":" ++ decimal (rounds + 1)
    ++ codes ",\"changed\":" ++ array (map (change_told framed old new) (filter (differs framed old new) framed.order)) ++ codes "}\n"

-- a point with its set
abbrev pub known_told : Framed → List (List Bool) → ℕ → List ℕ
known_told framed columns point =
    codes "{\"point\":" ++ decimal point
    ++ codes ",\"bits\":" ++ numbers_in framed.program framed.analysis (bit_in framed.points columns point) ++ codes "}"

-- the line of what stands before the first round, with these points
abbrev pub start_told : Framed → List (List Bool) → List ℕ → List ℕ
start_told framed columns known =
    codes "{\"type\":\"start\",\"analysis\":" ++ quoted (analysis_name framed.analysis)
    ++ codes ",\"begin\":" ++ quoted (beginning_name (is_must framed.analysis))
    ++ codes ",\"order\":" ++ array (map decimal framed.order)
    ++ codes ",\"known\":" ++ array (map (known_told framed columns) known) ++ codes "}\n"

-- A text has the lines of so many rounds behind what stood there, each of which changed something, and the columns tell the sets behind them.
pub record KeepsRounds (framed : Framed) (rounds : ℕ) (columns : List (List Bool)) (old new : List ℕ) : Type 0 where
  pub are_columns : AreColumns framed rounds columns
  pub is_text : new ≡ old ++ flat_map (round_line (iteration_of framed)) (range_with_len 0 rounds)
  pub some : (earlier : ℕ) → earlier < rounds → ¬ (changed_points (iteration_of framed) earlier ≡ [])

-- A text has the lines of all rounds behind what stood there.
pub record HasRounds (iteration : Iteration) (old new : List ℕ) : Type 0 where
  pub last : ℕ
  pub is_last : IsLast iteration last
  pub is_text : new ≡ old ++ flat_map (round_line iteration) (range_with_len 0 (last + 1))

-- A text has the lines of an iteration behind what stood there.
pub record HasIteration (iteration : Iteration) (old new : List ℕ) : Type 0 where
  pub last : ℕ
  pub is_last : IsLast iteration last
  pub is_text : new ≡ old ++ iteration_lines iteration last

-- The points are those of the procedure.
pub record HasPoints (framed : Framed) : Type 0 where
  pub first : framed.points.first ≡ entry_point framed.program framed.procedure
  pub end : framed.points.end ≡ entry_point framed.program framed.procedure + suc (end_place framed.program framed.procedure)

-- A text has the lines of an analysis behind what stood there.
pub record HasAnalysis (program : Program) (procedure : ℕ) (analysis : Analysis) (old new : List ℕ) : Type 0 where
  pub lines : List ℕ
  pub are_lines : IsAnalysisText program procedure analysis lines
  pub is_text : new ≡ old ++ lines

-- the line of what is shown, with these analyses
abbrev pub head_told : Program → ℕ → List Analysis → List ℕ
head_told program procedure analyses =
    codes "{\"type\":\"steps\",\"procedure\":" ++ quoted (procedure_name program procedure)
    ++ codes ",\"first\":" ++ decimal (entry_point program procedure)
    ++ codes ",\"points\":" ++ decimal (end_place program procedure + 1)
    ++ codes ",\"analyses\":" ++ array (map (λ analysis. quoted (analysis_name analysis)) analyses) ++ codes "}\n"
