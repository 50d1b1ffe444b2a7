-- A program's flow graph with its facts, for tools: an object of JSON a line. First the program, then the points in order, then
-- the report's remarks in its order, and last a line that says how many points there were. Names stand in the order of their numbers.
use Rattle.std.specs.Prelude.{◌≡◌, ℕ, ◌+◌, ◌-◌, Bool, true, false, List, [], ◌∷◌, ◌++◌, map, flat_map, length, Option, Some, None, codes, decimal}
use Rattle.flow_graph.specs.Edges.{edges_from}
use Rattle.flow_graph.specs.Points.{place_of, point_count, procedure_at, statement_at}
use Rattle.flow_graph.specs.Universes.{definitions, expressions}
use Rattle.flow_graph.specs.declared.analysis.Analysis.{Analysis}
use Rattle.flow_graph.specs.declared.analysis.Analysis.TheVariants.{Avail, Busy}
use Rattle.flow_graph.specs.declared.edge.Edge.{Edge}
use Rattle.flow_graph.specs.declared.edge.Edge.TheVariants.{Step, Call, Ret}
use Rattle.flow_reports.specs.Reports.{IsKnowledge, Knowledge, remarks_at}
use Rattle.flow_texts.specs.Tables.{bit_text, bits_at, variable_text}
use Rattle.flow_reports.specs.declared.remark.Remark.{Remark}
use Rattle.flow_reports.specs.declared.remark.Remark.TheVariants.{NeverReached, Unset, Computed, VeryBusy, Dead}
use Rattle.tac_listing.specs.Listings.{statement_text}
use Rattle.tac_program.specs.Programs.{Program}
use Rattle.text_pieces.specs.Strings.{quoted}
use Rattle.flow_views.specs.Views.{analysis_name, chosen_analyses, known_facts, label_name, labels_at, names_at, outcome, procedure_name}
use Rattle.flow_views.specs.Views.{end_shown, first_shown, shown_points}
use Rattle.flow_views.specs.declared.view.Chosen.{Chosen}
use Rattle.flow_views.specs.declared.view.View.{View}

-- texts with something between them
abbrev pub joined : List ℕ → List (List ℕ) → List ℕ
joined between [] = []
joined between (text ∷ others) = text ++ flat_map (λ other. between ++ other) others

abbrev pub array : List (List ℕ) → List ℕ
array elements = codes "[" ++ joined (codes ",") elements ++ codes "]"

abbrev pub boolean : Bool → List ℕ
boolean true = codes "true"
boolean false = codes "false"

abbrev pub program_line : Program → List ℕ
program_line program =
    codes "{\"type\":\"program\",\"version\":1,\"points\":" ++ decimal (point_count program)
    ++ codes ",\"procedures\":" ++ array (map quoted program.procedure_names)
    ++ codes ",\"variables\":" ++ array (map quoted program.variable_names)
    ++ codes ",\"definitions\":" ++ decimal (length (definitions program))
    ++ codes ",\"expressions\":" ++ decimal (length (expressions program)) ++ codes "}\n"

-- where the statement at a point stands: its line, and its first and its last byte in the text, all from 1
abbrev pub span_fields : Program → ℕ → List ℕ
span_fields program point = elim (statement_at program point) [
  | Some statement ↦ codes ",\"line\":" ++ decimal statement.span.line
      ++ codes ",\"first\":" ++ decimal (statement.span.start + 1)
      ++ codes ",\"last\":" ++ decimal statement.span.end
  | None ↦ codes ",\"line\":null,\"first\":null,\"last\":null"
]

-- the statement as a listing writes it
abbrev pub statement_field : Program → ℕ → List ℕ
statement_field program point = elim (statement_at program point) [
  | Some statement ↦ quoted (statement_text (names_at program point) statement.kind)
  | None ↦ codes "null"
]

abbrev pub edge_object : Edge → List ℕ
edge_object (Step source target) = codes "{\"kind\":\"step\",\"to\":" ++ decimal target ++ codes "}"
edge_object (Call site source target) =
    codes "{\"kind\":\"call\",\"site\":" ++ decimal site ++ codes ",\"to\":" ++ decimal target ++ codes "}"
edge_object (Ret site source target) =
    codes "{\"kind\":\"return\",\"site\":" ++ decimal site ++ codes ",\"to\":" ++ decimal target ++ codes "}"

-- the outcome of a test by which a step is taken
abbrev pub when_field : Option Bool → List ℕ
when_field (Some outcome) = codes ",\"when\":" ++ boolean outcome
when_field None = []

-- the edge of a point
abbrev pub point_edge : Program → Edge → List ℕ
point_edge program (Step source target) =
    codes "{\"kind\":\"step\",\"to\":" ++ decimal target ++ when_field (outcome program source target) ++ codes "}"
point_edge program (Call site source target) = edge_object (Call site source target)
point_edge program (Ret site source target) = edge_object (Ret site source target)

-- whether there is a valid path, and the set: by number, and what its bits are called
abbrev pub facts_field : Program → Knowledge → ℕ → Analysis → List ℕ
facts_field program known point analysis =
    codes ",\"" ++ analysis_name analysis ++ codes "\":{\"path\":" ++ boolean ((known_facts known analysis).has_path point)
    ++ codes ",\"bits\":" ++ array (map decimal (bits_at program analysis (known_facts known analysis) point))
    ++ codes ",\"names\":"
    ++ array (map (λ bit. quoted (bit_text program analysis bit)) (bits_at program analysis (known_facts known analysis) point))
    ++ codes "}"

-- the labels of a point, its statement, whether it is doubtful, and its edges
abbrev pub point_parts : Program → Knowledge → ℕ → List ℕ
point_parts program known point =
    codes ",\"labels\":" ++ array (map (λ label. quoted (label_name program point label)) (labels_at program point))
    ++ codes ",\"statement\":" ++ statement_field program point
    ++ codes ",\"doubtful\":" ++ boolean (known.doubtful point)
    ++ codes ",\"edges\":" ++ array (map (point_edge program) (edges_from program point))

abbrev pub point_line : Program → Knowledge → Chosen → ℕ → List ℕ
point_line program known chosen point =
    codes "{\"type\":\"point\",\"point\":" ++ decimal point
    ++ codes ",\"procedure\":" ++ quoted (procedure_name program (procedure_at program point))
    ++ codes ",\"place\":" ++ decimal (place_of program point).place
    ++ span_fields program point ++ point_parts program known point
    ++ flat_map (facts_field program known point) (chosen_analyses chosen) ++ codes "}\n"

-- the kind of a remark, and what it names
abbrev pub remark_fields : Program → Remark → List ℕ
remark_fields program NeverReached = codes "\"never_reached\""
remark_fields program (Unset variable) = codes "\"unset\",\"variable\":" ++ quoted (variable_text program variable)
remark_fields program (Computed bit) = codes "\"computed\",\"expression\":" ++ quoted (bit_text program Avail bit)
remark_fields program (VeryBusy bit) = codes "\"busy\",\"expression\":" ++ quoted (bit_text program Busy bit)
remark_fields program (Dead variable) = codes "\"dead\",\"variable\":" ++ quoted (variable_text program variable)

abbrev pub remark_object : Program → ℕ → Remark → List ℕ
remark_object program point remark =
    codes "{\"type\":\"remark\",\"point\":" ++ decimal point ++ span_fields program point
    ++ codes ",\"kind\":" ++ remark_fields program remark ++ codes "}\n"

-- it but for its end
abbrev pub remark_head : Program → ℕ → Remark → List ℕ
remark_head program point remark =
    codes "{\"type\":\"remark\",\"point\":" ++ decimal point ++ span_fields program point
    ++ codes ",\"kind\":" ++ remark_fields program remark

-- the last line: who does not find it has not all of them
abbrev pub end_line : Program → View → List ℕ
end_line program view =
    codes "{\"type\":\"end\",\"points\":" ++ decimal (end_shown program view.procedure - first_shown program view.procedure) ++ codes "}\n"

-- the lines but for the last, with the remarks in a form of their own
abbrev pub json_with : (Program → ℕ → Remark → List ℕ) → Program → Knowledge → View → List ℕ
json_with object program known view =
    program_line program ++ flat_map (point_line program known view.facts) (shown_points program view)
    ++ flat_map (λ point. flat_map (object program point) (remarks_at program known point)) (shown_points program view)

abbrev pub json_of : Program → Knowledge → View → List ℕ
json_of program known view = json_with remark_object program known view ++ end_line program view

-- The text tells the meets over all valid paths.
pub record IsJson (program : Program) (view : View) (text : List ℕ) : Type 0 where
  pub known : Knowledge
  pub is_known : IsKnowledge program known
  pub is_text : text ≡ json_of program known view
