-- Lines of JSON whose facts are differences: at each point the numbers of the bits that came and that went against the point before it in
-- its procedure, and of those that come and go through its statement. What the bits are called stands in the first line, once.
use Rattle.std.specs.Prelude.{◌≡◌, ℕ, Bool, List, [], ◌∷◌, ◌++◌, map, flat_map, filter, length, Option, Some, None, if◌then◌else◌, codes, decimal}
use Rattle.std.specs.List.{range_with_len}
use Rattle.doubt_origins.specs.Origins.{AreOrigins}
use Rattle.flow_graph.specs.Edges.{edges_from}
use Rattle.flow_graph.specs.Points.{place_of, point_count, procedure_at}
use Rattle.flow_graph.specs.Universes.{bits, definitions, expressions}
use Rattle.flow_graph.specs.declared.analysis.Analysis.{Analysis}
use Rattle.flow_graph.specs.declared.analysis.Analysis.TheVariants.{Reach, Avail}
use Rattle.flow_reports.specs.Reports.{IsKnowledge, Knowledge, remarks_at}
use Rattle.flow_reports.specs.declared.remark.Remark.{Remark}
use Rattle.flow_reports.specs.declared.remark.Remark.TheVariants.{NeverReached, Unset, Computed, VeryBusy, Dead}
use Rattle.flow_team.specs.Tables.{Facts}
use Rattle.flow_texts.specs.Tables.{bit_text}
use Rattle.flow_views.specs.Json.{array, boolean, end_line, point_edge, remark_object, span_fields, statement_field}
use Rattle.flow_views.specs.Views.{analysis_name, chosen_analyses, known_facts, label_name, labels_at, procedure_name, shown_points}
use Rattle.flow_views.specs.declared.view.Chosen.{Chosen}
use Rattle.flow_views.specs.declared.view.View.{View}
use Rattle.json_statements.specs.Parts.{definition_object, expression_object, parts_fields}
use Rattle.point_sets.specs.Changes.{beyond, set_ahead}
use Rattle.point_sets.specs.Sets.{behind, has_behind}
use Rattle.tac_program.specs.Programs.{Program}
use Rattle.text_pieces.specs.Strings.{quoted}

-- the numbers of an analysis's bits that a set has
abbrev pub numbers_in : Program → Analysis → (ℕ → Bool) → List ℕ
numbers_in program analysis set = array (map decimal (filter set (range_with_len 0 (bits program analysis))))

-- what came and what went from one set to another
abbrev pub change_fields : Program → Analysis → (ℕ → Bool) → (ℕ → Bool) → List ℕ
change_fields program analysis old new =
    codes "\"came\":" ++ numbers_in program analysis (beyond new old)
    ++ codes ",\"went\":" ++ numbers_in program analysis (beyond old new)

-- what the statement changes, where a set of its own stands behind it
abbrev pub behind_changes : Program → Analysis → Facts → ℕ → List ℕ
behind_changes program analysis facts point =
    if has_behind program point
    then codes "{" ++ change_fields program analysis (facts.contains point) (behind program analysis facts point) ++ codes "}"
    else codes "null"

-- whether there is a valid path, and what changed
abbrev pub changes_field : Program → Knowledge → ℕ → Analysis → List ℕ
changes_field program known point analysis =
    codes ",\"" ++ analysis_name analysis ++ codes "\":{\"path\":" ++ boolean ((known_facts known analysis).has_path point)
    ++ codes "," ++ change_fields program analysis (set_ahead program (known_facts known analysis) point) ((known_facts known analysis).contains point)
    ++ codes ",\"behind\":" ++ behind_changes program analysis (known_facts known analysis) point ++ codes "}"

-- what the bits of an analysis are called, in the order of their numbers
abbrev pub names_field : Program → Analysis → List ℕ
names_field program analysis = array (map (λ bit. quoted (bit_text program analysis bit)) (range_with_len 0 (bits program analysis)))

-- the line of the program but for its end
abbrev pub program_head : Program → List ℕ
program_head program =
    codes "{\"type\":\"program\",\"version\":1,\"points\":" ++ decimal (point_count program)
    ++ codes ",\"procedures\":" ++ array (map quoted program.procedure_names)
    ++ codes ",\"variables\":" ++ array (map quoted program.variable_names)
    ++ codes ",\"definitions\":" ++ decimal (length (definitions program))
    ++ codes ",\"expressions\":" ++ decimal (length (expressions program))

-- where the doubt of a point comes from; null where it is not doubtful
abbrev pub leads_to_field : Option ℕ → List ℕ
leads_to_field (Some origin) = codes ",\"leads_to\":" ++ decimal origin
leads_to_field None = codes ",\"leads_to\":null"

-- the labels of a point, its statement, whether it is doubtful and where that comes from, and its edges
abbrev pub doubted_parts : Option ℕ → Program → Knowledge → ℕ → List ℕ
doubted_parts origin program known point =
    codes ",\"labels\":" ++ array (map (λ label. quoted (label_name program point label)) (labels_at program point))
    ++ codes ",\"statement\":" ++ statement_field program point
    ++ codes ",\"doubtful\":" ++ boolean (known.doubtful point) ++ leads_to_field origin
    ++ codes ",\"edges\":" ++ array (map (point_edge program) (edges_from program point))

-- the line of the program, with what its definitions and expressions are called, and their parts
abbrev pub named_program_line : Program → List ℕ
named_program_line program =
    program_head program ++ codes ",\"definition_names\":" ++ names_field program Reach
    ++ codes ",\"expression_names\":" ++ names_field program Avail
    ++ codes ",\"definition_parts\":" ++ array (map definition_object (definitions program))
    ++ codes ",\"expression_parts\":" ++ array (map expression_object (expressions program)) ++ codes "}\n"

abbrev pub changed_point_line : (ℕ → Option ℕ) → Program → Knowledge → Chosen → ℕ → List ℕ
changed_point_line origins program known chosen point =
    codes "{\"type\":\"point\",\"point\":" ++ decimal point
    ++ codes ",\"procedure\":" ++ quoted (procedure_name program (procedure_at program point))
    ++ codes ",\"place\":" ++ decimal (place_of program point).place
    ++ span_fields program point ++ doubted_parts (origins point) program known point ++ parts_fields program point
    ++ flat_map (changes_field program known point) (chosen_analyses chosen) ++ codes "}\n"

-- A remark in a line of its own; where the facts of very busy expressions are shown, those of a point stand in one line.
abbrev pub remark_alone : Bool → Program → ℕ → Remark → List ℕ
remark_alone together program point NeverReached = remark_object program point NeverReached
remark_alone together program point (Unset variable) = remark_object program point (Unset variable)
remark_alone together program point (Computed bit) = remark_object program point (Computed bit)
remark_alone together program point (VeryBusy bit) = if together then [] else remark_object program point (VeryBusy bit)
remark_alone together program point (Dead variable) = remark_object program point (Dead variable)

-- the expressions that remarks call very busy, by number
abbrev pub very_busy : Remark → List ℕ
very_busy NeverReached = []
very_busy (Unset variable) = []
very_busy (Computed bit) = []
very_busy (VeryBusy bit) = bit ∷ []
very_busy (Dead variable) = []

abbrev pub busy_object : Program → ℕ → List ℕ → List ℕ
busy_object program point bits =
    codes "{\"type\":\"remark\",\"point\":" ++ decimal point ++ span_fields program point
    ++ codes ",\"kind\":\"busy\",\"expressions\":" ++ array (map decimal bits) ++ codes "}\n"

-- the line of very busy expressions, where there are any
abbrev pub busy_line : Program → ℕ → List ℕ → List ℕ
busy_line program point [] = []
busy_line program point (bit ∷ others) = busy_object program point (bit ∷ others)

abbrev pub changed_remarks : Program → Knowledge → Chosen → ℕ → List ℕ
changed_remarks program known chosen point =
    flat_map (remark_alone chosen.busy program point) (remarks_at program known point)
    ++ (if chosen.busy then busy_line program point (flat_map very_busy (remarks_at program known point)) else [])

-- the lines but for the last, with the remarks in a form of their own, each in its own line
abbrev pub changes_with : (ℕ → Option ℕ) → (Program → ℕ → Remark → List ℕ) → Program → Knowledge → View → List ℕ
changes_with origins object program known view =
    named_program_line program ++ flat_map (changed_point_line origins program known view.facts) (shown_points program view)
    ++ flat_map (λ point. flat_map (object program point) (remarks_at program known point)) (shown_points program view)

abbrev pub json_changes : (ℕ → Option ℕ) → Program → Knowledge → View → List ℕ
json_changes origins program known view =
    named_program_line program ++ flat_map (changed_point_line origins program known view.facts) (shown_points program view)
    ++ flat_map (changed_remarks program known view.facts) (shown_points program view) ++ end_line program view

-- The text tells the meets over all valid paths, by what changes from point to point, and of each doubtful point where its doubt comes from.
pub record IsJsonChanges (program : Program) (view : View) (text : List ℕ) : Type 0 where
  pub known : Knowledge
  pub is_known : IsKnowledge program known
  pub origins : ℕ → Option ℕ
  pub are_origins : AreOrigins program origins
  pub is_text : text ≡ json_changes origins program known view
