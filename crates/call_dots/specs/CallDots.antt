-- A program's call graph, for Graphviz: a node a procedure, and an edge for each procedure and each that its statements call.
use Rattle.std.specs.Prelude.{◌≡◌, ℕ, suc, ◌+◌, ◌-◌, Bool, not, ◌&&◌, List, [], ◌++◌, flat_map, length, Some, None, count_by, nat_eq}
use Rattle.std.specs.Prelude.{if◌then◌else◌, codes, decimal}
use Rattle.std.specs.List.{range_with_len}
use Rattle.flow_graph.specs.Analyses.{main_procedure}
use Rattle.flow_graph.specs.Points.{end_place, entry_point, procedure_at, statement_at}
use Rattle.flow_reports.specs.Listed.{remarks_of}
use Rattle.flow_reports.specs.Reports.{IsKnowledge, Knowledge}
use Rattle.flow_reports.specs.declared.listed.PlacedRemark.{PlacedRemark}
use Rattle.flow_reports.specs.declared.remark.Remark.{Remark}
use Rattle.flow_reports.specs.declared.remark.Remark.TheVariants.{NeverReached, Unset, Computed, VeryBusy, Dead}
use Rattle.flow_texts.specs.Tables.{line_at}
use Rattle.flow_views.specs.Dots.{label_line, text_if}
use Rattle.flow_views.specs.Views.{procedure_name}
use Rattle.tac_program.specs.Programs.{Program}
use Rattle.call_dots.specs.Calls.{IsRecursion, Recursion, edges_of}
use Rattle.call_dots.specs.declared.calls.CallEdge.{CallEdge}
use Rattle.call_dots.specs.declared.marks.ProcedureMarks.{ProcedureMarks}

abbrev pub head : List ℕ
head =
    codes "digraph \"tacflow\" {\n"
    ++ codes "  graph [fontname=\"monospace\", labeljust=l];\n"
    ++ codes "  node [shape=box, fontname=\"monospace\", fontsize=11];\n"
    ++ codes "  edge [class=\"call\", fontname=\"monospace\", fontsize=10];\n"

-- the kinds of remarks, by number
abbrev pub kind_of : Remark → ℕ
kind_of NeverReached = 0
kind_of (Unset variable) = 1
kind_of (Computed bit) = 2
kind_of (VeryBusy bit) = 3
kind_of (Dead variable) = 4

-- whether a remark is on a statement of a procedure, and of a kind
abbrev pub is_counted : Program → (procedure kind : ℕ) → PlacedRemark → Bool
is_counted program procedure kind placed = nat_eq (procedure_at program placed.point) procedure && nat_eq (kind_of placed.remark) kind

-- how many of a report's remarks are of a kind, and on a procedure's statements
abbrev pub remark_count : Program → List PlacedRemark → (procedure kind : ℕ) → ℕ
remark_count program remarks procedure kind = count_by (is_counted program procedure kind) remarks

-- `WORDS: COUNT`; no line where there is none
abbrev pub count_line : List ℕ → ℕ → List ℕ
count_line words count = if nat_eq count 0 then [] else words ++ codes ": " ++ decimal count ++ codes "\\l"

-- a line for each kind of remark, in the report's order
abbrev pub count_lines : Program → List PlacedRemark → ℕ → List ℕ
count_lines program remarks procedure =
    count_line (codes "never reached") (remark_count program remarks procedure 0)
    ++ count_line (codes "may be used before it is set") (remark_count program remarks procedure 1)
    ++ count_line (codes "is already computed") (remark_count program remarks procedure 2)
    ++ count_line (codes "is very busy") (remark_count program remarks procedure 3)
    ++ count_line (codes "assignment is dead") (remark_count program remarks procedure 4)

-- the line of a procedure's first statement, where it has one
abbrev pub first_line : Program → ℕ → List ℕ
first_line program procedure = elim (statement_at program (entry_point program procedure)) [
  | Some statement ↦ codes "line " ++ decimal statement.span.line ++ codes ", "
  | None ↦ []
]

abbrev pub points_words : ℕ → List ℕ
points_words count = decimal count ++ (if nat_eq count 1 then codes " point" else codes " points")

-- `line LINE, COUNT points`
abbrev pub size_line : Program → ℕ → List ℕ
size_line program procedure = first_line program procedure ++ points_words (suc (end_place program procedure)) ++ codes "\\l"

abbrev pub label_text : Program → List PlacedRemark → ℕ → List ℕ
label_text program remarks procedure =
    label_line (procedure_name program procedure) ++ size_line program procedure ++ count_lines program remarks procedure

-- what is marked of a procedure: whether a valid path leads to its entry, and whether it is recursive
abbrev pub marks_of : Program → Knowledge → Recursion → ℕ → ProcedureMarks
marks_of program known recursion procedure =
    record { reached = known.reach.has_path (entry_point program procedure); recursive = recursion.procedures procedure }

-- A recursive procedure has two borders, one that is never reached is grey.
abbrev pub look_of : ProcedureMarks → List ℕ
look_of marks = text_if marks.recursive (codes ", peripheries=2") ++ text_if (not marks.reached) (codes ", style=filled, fillcolor=grey80")

abbrev pub class_of : ProcedureMarks → List ℕ
class_of marks = codes "procedure" ++ text_if marks.recursive (codes " recursive") ++ text_if (not marks.reached) (codes " unreached")

abbrev pub node_names : ℕ → ProcedureMarks → List ℕ
node_names procedure marks =
    codes "  " ++ decimal procedure ++ codes " [id=\"procedure" ++ decimal procedure ++ codes "\", class=\"" ++ class_of marks ++ codes "\", label=\""

abbrev pub marked_node : Program → List PlacedRemark → ℕ → ProcedureMarks → List ℕ
marked_node program remarks procedure marks =
    node_names procedure marks ++ label_text program remarks procedure ++ codes "\"" ++ look_of marks ++ codes "];\n"

abbrev pub node : Program → Knowledge → Recursion → ℕ → List ℕ
node program known recursion procedure =
    marked_node program (remarks_of program known) procedure (marks_of program known recursion procedure)

-- the nodes of all procedures: that of `main` comes first
abbrev pub all_nodes : Program → Knowledge → Recursion → List ℕ
all_nodes program known recursion =
    node program known recursion (main_procedure program)
    ++ flat_map (node program known recursion) (range_with_len 0 (main_procedure program))
    ++ flat_map (node program known recursion)
    (range_with_len (main_procedure program + 1) (length program.procedures - (main_procedure program + 1)))

-- `line LINE` of the one statement that calls, or how many do
abbrev pub call_words : Program → CallEdge → List ℕ
call_words program edge =
    if nat_eq edge.count 1 then codes "line " ++ decimal (line_at program edge.call.site) else decimal edge.count ++ codes " calls"

-- what a call looks like that leads back to its caller
abbrev pub back_look : Bool → List ℕ
back_look back = text_if back (codes ", class=\"call recursive\", style=dashed, color=grey40, fontcolor=grey40")

abbrev pub edge_line : Program → Recursion → CallEdge → List ℕ
edge_line program recursion edge =
    codes "  " ++ decimal edge.call.caller ++ codes " -> " ++ decimal edge.call.callee ++ codes " [label=\"" ++ call_words program edge ++ codes "\""
    ++ back_look (recursion.calls edge.call.caller edge.call.callee) ++ codes "];\n"

abbrev pub legend : List ℕ
legend =
    codes "  subgraph \"cluster_legend\" {\n    id=\"legend\";\n    class=\"legend\";\n    label=\"Legend\";\n"
    ++ codes "    node [class=\"legend\"];\n    edge [class=\"legend\"];\n"
    ++ codes "    legend0 [label=\"PROCEDURE\\lline of its first statement, points\\lremarks of each kind\\l\"];\n"
    ++ codes "    legend1 [label=\"calls itself, through others or not\", peripheries=2];\n"
    ++ codes "    legend2 [label=\"never reached\", style=filled, fillcolor=grey80];\n"
    ++ codes "    node [shape=plaintext];\n    legend3 [label=\"calls, with the line where it is one\"];\n"
    ++ codes "    legend4 [label=\"calls that lead back to the caller\"];\n"
    ++ codes "    legend0 -> legend1 -> legend2 [style=invis];\n    legend2 -> legend3;\n"
    ++ codes "    legend3 -> legend4 [style=dashed, color=grey40];\n  }\n"

-- the call graph, with a legend or without
abbrev pub call_dot_of : Program → Knowledge → Recursion → Bool → List ℕ
call_dot_of program known recursion has_legend =
    head ++ all_nodes program known recursion ++ flat_map (edge_line program recursion) (edges_of program) ++ text_if has_legend legend ++ codes "}\n"

-- The text is the call graph, with the report's remarks, which are made of the meets over all valid paths.
pub record IsCallDot (program : Program) (has_legend : Bool) (text : List ℕ) : Type 0 where
  pub known : Knowledge
  pub is_known : IsKnowledge program known
  pub recursion : Recursion
  pub is_recursion : IsRecursion program recursion
  pub is_text : text ≡ call_dot_of program known recursion has_legend
