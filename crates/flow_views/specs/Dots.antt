-- A program's flow graph with its facts, for Graphviz: a cluster a procedure, a node a point, and the edges. Steps alone rank the nodes, so
-- that each procedure reads from top to bottom.
use Rattle.std.specs.Prelude.{◌≡◌, ℕ, suc, ◌+◌, ◌-◌, Bool, true, false, not, ◌&&◌, List, [], ◌∷◌, ◌++◌, map, flat_map, length, Option, Some, None}
use Rattle.std.specs.Prelude.{nat_le, nat_lt, if◌then◌else◌, codes, decimal}
use Rattle.std.specs.List.{range_with_len}
use Rattle.flow_graph.specs.Analyses.{main_procedure}
use Rattle.flow_graph.specs.Edges.{edges_from}
use Rattle.flow_graph.specs.Paths.{target_of}
use Rattle.flow_graph.specs.Points.{end_place, entry_point, procedure_at, statement_at}
use Rattle.flow_graph.specs.declared.analysis.Analysis.{Analysis}
use Rattle.flow_graph.specs.declared.edge.Edge.{Edge}
use Rattle.flow_graph.specs.declared.edge.Edge.TheVariants.{Step, Call, Ret}
use Rattle.flow_reports.specs.Reports.{IsKnowledge, Knowledge, remark_text, remarks_at}
use Rattle.flow_texts.specs.Tables.{bit_text, line_at}
use Rattle.point_sets.specs.Changes.{came_text, changed_from, set_against}
use Rattle.point_sets.specs.SetLines.{lines_if_any, set_lines}
use Rattle.point_sets.specs.Sets.{calls_at, has_behind, set_on, shown_bits, side_text}
use Rattle.point_sets.specs.declared.side.Side.{Side}
use Rattle.point_sets.specs.declared.side.Side.TheVariants.{Before, Behind}
use Rattle.tac_listing.specs.Listings.{statement_text}
use Rattle.tac_program.specs.Programs.{Program}
use Rattle.tac_program.specs.declared.program.Label.{Label}
use Rattle.text_pieces.specs.Strings.{escaped, quoted}
use Rattle.flow_views.specs.Views.{analysis_name, chosen_analyses, known_facts, label_name, labels_at, marks_at, names_at, outcome, points_in}
use Rattle.flow_views.specs.Views.{procedure_name, shown_points}
use Rattle.flow_views.specs.declared.marks.PointMarks.{PointMarks}
use Rattle.flow_views.specs.declared.view.View.{View}

abbrev pub head : List ℕ
head =
    codes "digraph \"tacflow\" {\n"
    ++ codes "  graph [fontname=\"monospace\", labeljust=l];\n"
    ++ codes "  node [shape=box, fontname=\"monospace\", fontsize=11];\n"
    ++ codes "  edge [class=\"step\", fontname=\"monospace\", fontsize=10];\n"

-- a line of a label ends with `\l`, which sets it to the left
abbrev pub label_line : List ℕ → List ℕ
label_line line = escaped line ++ codes "\\l"

-- `LABEL:`
abbrev pub label_title : Program → ℕ → Label → List ℕ
label_title program point label = label_name program point label ++ codes ":"

-- `LINE: STATEMENT`, the statement as a listing writes it, and `end of NAME` at a procedure's end
abbrev pub title : Program → ℕ → List ℕ
title program point = elim (statement_at program point) [
  | Some statement ↦ decimal statement.span.line ++ codes ": " ++ statement_text (names_at program point) statement.kind
  | None ↦ codes "end of " ++ procedure_name program (procedure_at program point)
]

-- the names in the set of an analysis on a side of a statement, in the table's order
abbrev pub set_names : Program → Knowledge → View → ℕ → Analysis → Side → List (List ℕ)
set_names program known view point analysis side =
    map (bit_text program analysis)
    (shown_bits program analysis view.look.hides_entry (set_on side program analysis (known_facts known analysis) point))

-- `ANALYSIS: SET`, or `ANALYSIS behind: SET`, in lines
abbrev pub lines_on : Program → Knowledge → View → ℕ → Analysis → Side → List (List ℕ)
lines_on program known view point analysis side =
    set_lines (analysis_name analysis ++ side_text side) (set_names program known view point analysis side)

-- `ANALYSIS came: SET`, or `ANALYSIS went: SET`, or with ` behind`, in lines; no line where nothing came, or went
abbrev pub changed_names : Program → View → Analysis → Bool → (ℕ → Bool) → (ℕ → Bool) → List (List ℕ)
changed_names program view analysis came old new =
    map (bit_text program analysis) (shown_bits program analysis view.look.hides_entry (changed_from came old new))

abbrev pub changed_lines : Program → View → Analysis → Side → Bool → (ℕ → Bool) → (ℕ → Bool) → List (List ℕ)
changed_lines program view analysis side came old new =
    lines_if_any (analysis_name analysis ++ came_text came ++ side_text side) (changed_names program view analysis came old new)

-- both, of what changes from one set to another
abbrev pub both_changed : Program → View → Analysis → Side → (ℕ → Bool) → (ℕ → Bool) → List (List ℕ)
both_changed program view analysis side old new =
    changed_lines program view analysis side true old new ++ changed_lines program view analysis side false old new

-- the change that leads to a side of a statement
abbrev pub changes_on : Program → Knowledge → View → ℕ → Analysis → Side → List (List ℕ)
changes_on program known view point analysis side =
    both_changed program view analysis side (set_against side program (known_facts known analysis) point)
    (set_on side program analysis (known_facts known analysis) point)

-- the set, or where it is asked for what changes
abbrev pub told_on : Program → Knowledge → View → ℕ → Analysis → Side → List (List ℕ)
told_on program known view point analysis side =
    if view.look.changes then changes_on program known view point analysis side else lines_on program known view point analysis side

-- The sides of a point whose sets are shown: before its statement, and where it is asked for behind it too.
abbrev pub behind_if : Bool → List Side
behind_if is = if is then Behind ∷ [] else []

abbrev pub sides : Program → View → ℕ → List Side
sides program view point = Before ∷ behind_if (view.look.behind && has_behind program point)

abbrev pub fact_lines : Program → Knowledge → View → ℕ → Analysis → List (List ℕ)
fact_lines program known view point analysis = flat_map (told_on program known view point analysis) (sides program view point)

-- a line for each fact that is chosen, or several
abbrev pub facts_in_lines : Program → Knowledge → View → ℕ → List ℕ
facts_in_lines program known view point =
    flat_map (λ analysis. flat_map label_line (fact_lines program known view point analysis)) (chosen_analyses view.facts)

abbrev pub text_if : Bool → List ℕ → List ℕ
text_if is text = if is then text else []

-- the lines of a node: its labels, its title, then what the report says of it, then the facts, which may stand in its tooltip instead
abbrev pub label_text : Program → Knowledge → View → ℕ → List ℕ
label_text program known view point =
    flat_map (λ label. label_line (label_title program point label)) (labels_at program point) ++ label_line (title program point)
    ++ flat_map (λ remark. label_line (remark_text program remark)) (remarks_at program known point)
    ++ text_if (not view.look.hovers) (facts_in_lines program known view point)

abbrev pub tooltip : Program → Knowledge → View → ℕ → List ℕ
tooltip program known view point =
    text_if view.look.hovers (codes ", tooltip=\"" ++ facts_in_lines program known view point ++ codes "\"")

-- What marks look like: grey where no valid path leads; else red where a variable may be unset, and yellow where an assignment is dead. A second
-- border where the point is doubtful.
abbrev pub look_of : PointMarks → List ℕ
look_of marks =
    text_if (not marks.reached) (codes ", style=filled, fillcolor=grey80") ++ text_if marks.unset (codes ", color=red, fontcolor=red")
    ++ text_if marks.dead (codes ", style=filled, fillcolor=khaki") ++ text_if marks.doubtful (codes ", peripheries=2")

-- and their words, by which a style sheet finds them
abbrev pub class_of : PointMarks → List ℕ
class_of marks =
    codes "point" ++ text_if (not marks.reached) (codes " unreached") ++ text_if marks.unset (codes " unset")
    ++ text_if marks.dead (codes " dead") ++ text_if marks.doubtful (codes " doubtful")

-- what a node is called in a picture that a browser shows
abbrev pub node_names : ℕ → PointMarks → List ℕ
node_names point marks = codes " [id=\"point" ++ decimal point ++ codes "\", class=\"" ++ class_of marks ++ codes "\", label=\""

-- a node, behind its number
abbrev pub node_body : Program → Knowledge → View → ℕ → List ℕ
node_body program known view point =
    node_names point (marks_at program known point) ++ label_text program known view point ++ codes "\"" ++ tooltip program known view point
    ++ look_of (marks_at program known point) ++ codes "];\n"

abbrev pub node : Program → Knowledge → View → ℕ → List ℕ
node program known view point = codes "    " ++ decimal point ++ node_body program known view point

-- a procedure's cluster, with what is written of its points
abbrev pub cluster_of : (ℕ → List ℕ) → Program → ℕ → List ℕ
cluster_of text program procedure =
    codes "  subgraph \"cluster_" ++ decimal procedure ++ codes "\" {\n"
    ++ codes "    id=\"procedure" ++ decimal procedure ++ codes "\";\n    class=\"procedure\";\n"
    ++ codes "    label=" ++ quoted (procedure_name program procedure) ++ codes ";\n"
    ++ flat_map text (points_in program procedure) ++ codes "  }\n"

abbrev pub cluster : Program → Knowledge → View → ℕ → List ℕ
cluster program known view = cluster_of (node program known view) program

abbrev pub arrow : ℕ → ℕ → List ℕ
arrow source target = codes "  " ++ decimal source ++ codes " -> " ++ decimal target

-- T and F at the steps of a test
abbrev pub outcome_label : Bool → List ℕ
outcome_label true = codes " [label=\"T\"]"
outcome_label false = codes " [label=\"F\"]"

abbrev pub outcome_mark : Option Bool → List ℕ
outcome_mark (Some outcome) = outcome_label outcome
outcome_mark None = []

-- what an edge between procedures looks like, with its word and the line of the call: it does not rank its nodes
abbrev pub across : List ℕ → ℕ → List ℕ
across word line =
    codes " [class=\"" ++ word ++ codes "\", style=dashed, color=grey60, fontcolor=grey40, constraint=false, xlabel=\"" ++ word ++ codes " "
    ++ decimal line ++ codes "\"];\n"

-- a step is solid; a call and a return are dashed and grey, with the line of the call
abbrev pub edge_line : Program → Edge → List ℕ
edge_line program (Step source target) = arrow source target ++ outcome_mark (outcome program source target) ++ codes ";\n"
edge_line program (Call site source target) = arrow source target ++ across (codes "call") (line_at program site)
edge_line program (Ret site source target) = arrow source target ++ across (codes "return") (line_at program site)

abbrev pub is_point_of : Program → ℕ → ℕ → Bool
is_point_of program procedure point =
    nat_le (entry_point program procedure) point && nat_lt point (entry_point program procedure + suc (end_place program procedure))

-- the edges out of a point: of all procedures every one, of one procedure those that stay in it
abbrev pub is_edge_shown : Program → View → Edge → Bool
is_edge_shown program view edge = elim view.procedure [ Some procedure ↦ is_point_of program procedure (target_of edge) | None ↦ true ]

abbrev pub shown_edge : Program → View → Edge → List ℕ
shown_edge program view edge = if is_edge_shown program view edge then edge_line program edge else []

-- A call and the point behind it are joined by a dotted line without a head, so that a procedure hangs together: it is no edge of the graph.
abbrev pub passed_call : Program → ℕ → List ℕ
passed_call program point = if calls_at program point then arrow point (suc point) ++ codes " [class=\"passed\", style=dotted, arrowhead=none];\n" else []

abbrev pub edge_lines : Program → View → ℕ → List ℕ
edge_lines program view point = flat_map (shown_edge program view) (edges_from program point) ++ passed_call program point

-- the clusters of all procedures: that of `main` is drawn first
abbrev pub all_clusters_of : (ℕ → List ℕ) → Program → List ℕ
all_clusters_of text program =
    cluster_of text program (main_procedure program)
    ++ flat_map (cluster_of text program) (range_with_len 0 (main_procedure program))
    ++ flat_map (cluster_of text program)
    (range_with_len (main_procedure program + 1) (length program.procedures - (main_procedure program + 1)))

-- that of one procedure, or those of all
abbrev pub shown_clusters_of : (ℕ → List ℕ) → Program → Option ℕ → List ℕ
shown_clusters_of text program (Some procedure) = cluster_of text program procedure
shown_clusters_of text program None = all_clusters_of text program

-- A legend: what a node's lines tell, each mark with its words, one below the other, and each arrow leads to its own.
abbrev pub legend_facts : Bool → List ℕ
legend_facts false = codes "ANALYSIS: what holds before it\\lANALYSIS behind: what holds behind it\\l"
legend_facts true =
    codes "ANALYSIS came: what holds here and not at the point before\\lANALYSIS went: what holds there and not here\\l"
    ++ codes "ANALYSIS came behind: what holds behind it and not before it\\lANALYSIS went behind: what holds before it and not behind it\\l"

abbrev pub legend_begin : List ℕ
legend_begin =
    codes "  subgraph \"cluster_legend\" {\n    id=\"legend\";\n    class=\"legend\";\n    label=\"Legend\";\n"
    ++ codes "    node [class=\"legend\"];\n    edge [class=\"legend\"];\n"
    ++ codes "    legend0 [label=\"LABEL:\\lLINE: STATEMENT\\lremarks\\l"

abbrev pub legend_marks : List ℕ
legend_marks =
    codes "\"];\n"
    ++ codes "    legend1 [label=\"never reached\", style=filled, fillcolor=grey80];\n"
    ++ codes "    legend2 [label=\"a variable may be used before it is set\", color=red, fontcolor=red];\n"
    ++ codes "    legend3 [label=\"the assignment is dead\", style=filled, fillcolor=khaki];\n"
    ++ codes "    legend4 [label=\"what follows may never end\", peripheries=2];\n"
    ++ codes "    node [shape=plaintext];\n    legend5 [label=\"a step; T: the test holds, F: it does not\"];\n"
    ++ codes "    legend6 [label=\"from a call to the point behind it\"];\n"
    ++ codes "    legend7 [label=\"a call or a return, with the line of the call\"];\n"

abbrev pub legend_nodes : Bool → List ℕ
legend_nodes changes = legend_begin ++ legend_facts changes ++ legend_marks

abbrev pub legend_edges : List ℕ
legend_edges =
    codes "    legend0 -> legend1 -> legend2 -> legend3 -> legend4 [style=invis];\n    legend4 -> legend5;\n"
    ++ codes "    legend5 -> legend6 [style=dotted, arrowhead=none];\n"
    ++ codes "    legend6 -> legend7 [style=dashed, color=grey60];\n  }\n"

abbrev pub legend : Bool → List ℕ
legend changes = legend_nodes changes ++ legend_edges

-- the picture, with and without the line that ends it
abbrev pub open_dot : Program → Knowledge → View → List ℕ
open_dot program known view =
    head ++ shown_clusters_of (node program known view) program view.procedure
    ++ flat_map (edge_lines program view) (shown_points program view) ++ text_if view.look.legend (legend view.look.changes)

abbrev pub dot_of : Program → Knowledge → View → List ℕ
dot_of program known view = open_dot program known view ++ codes "}\n"

-- The text is the picture of the meets over all valid paths.
pub record IsDot (program : Program) (view : View) (text : List ℕ) : Type 0 where
  pub known : Knowledge
  pub is_known : IsKnowledge program known
  pub is_text : text ≡ dot_of program known view
