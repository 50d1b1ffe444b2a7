-- A program's basic blocks with their sets, for Graphviz: a cluster a procedure, a node a block, and the edges between blocks.
use Rattle.std.specs.Prelude.{◌≡◌, ℕ, not, List, [], ◌++◌, map, flat_map, if◌then◌else◌, codes, decimal}
use Rattle.std.specs.List.{list_any}
use Rattle.flow_graph.specs.Edges.{edges_from}
use Rattle.flow_graph.specs.declared.analysis.Analysis.{Analysis}
use Rattle.flow_graph.specs.declared.edge.Edge.{Edge}
use Rattle.flow_graph.specs.declared.edge.Edge.TheVariants.{Step, Call, Ret}
use Rattle.flow_reports.specs.Reports.{IsKnowledge, Knowledge, remark_text, remarks_at}
use Rattle.flow_texts.specs.Tables.{bit_text, line_at}
use Rattle.flow_views.specs.Dots.{across, arrow, head, is_edge_shown, label_line, label_title, legend_begin, legend_edges, legend_marks, look_of}
use Rattle.flow_views.specs.Dots.{outcome_mark, passed_call, shown_clusters_of, text_if, title}
use Rattle.flow_views.specs.Views.{analysis_name, chosen_analyses, known_facts, labels_at, marks_at, outcome, shown_points}
use Rattle.flow_views.specs.declared.marks.PointMarks.{PointMarks}
use Rattle.flow_views.specs.declared.view.View.{View}
use Rattle.point_sets.specs.SetLines.{set_lines}
use Rattle.point_sets.specs.Sets.{shown_bits}
use Rattle.tac_program.specs.Programs.{Program}
use Rattle.block_dots.specs.Blocks.{block_last, block_points, is_leader}
use Rattle.block_dots.specs.BlockSets.{block_set, block_sets, set_word}
use Rattle.block_dots.specs.declared.block_set.BlockSet.{BlockSet}

-- the names in a set of a block, in the table's order
abbrev pub set_names : Program → Knowledge → View → ℕ → Analysis → BlockSet → List (List ℕ)
set_names program known view leader analysis set =
    map (bit_text program analysis)
    (shown_bits program analysis view.look.hides_entry (block_set set program analysis (known_facts known analysis) leader))

-- `ANALYSIS gen: SET` and its like, in lines
abbrev pub lines_of : Program → Knowledge → View → ℕ → Analysis → BlockSet → List (List ℕ)
lines_of program known view leader analysis set =
    set_lines (analysis_name analysis ++ set_word set) (set_names program known view leader analysis set)

-- the sets of each analysis that is chosen
abbrev pub block_lines : Program → Knowledge → View → ℕ → Analysis → List (List ℕ)
block_lines program known view leader analysis = flat_map (lines_of program known view leader analysis) (block_sets program leader)

abbrev pub facts_in_lines : Program → Knowledge → View → ℕ → List ℕ
facts_in_lines program known view leader =
    flat_map (λ analysis. flat_map label_line (block_lines program known view leader analysis)) (chosen_analyses view.facts)

-- a statement's line, and below it what the report says of it
abbrev pub statement_lines : Program → Knowledge → ℕ → List ℕ
statement_lines program known point =
    label_line (title program point) ++ flat_map (λ remark. label_line (remark_text program remark)) (remarks_at program known point)

-- the lines of a node: the block's labels, its statements, then the facts, which may stand in its tooltip instead
abbrev pub label_text : Program → Knowledge → View → ℕ → List ℕ
label_text program known view leader =
    flat_map (λ label. label_line (label_title program leader label)) (labels_at program leader)
    ++ flat_map (statement_lines program known) (block_points program leader)
    ++ text_if (not view.look.hovers) (facts_in_lines program known view leader)

abbrev pub tooltip : Program → Knowledge → View → ℕ → List ℕ
tooltip program known view leader =
    text_if view.look.hovers (codes ", tooltip=\"" ++ facts_in_lines program known view leader ++ codes "\"")

-- The marks of a block: those that any of its points has. Where a valid path leads to its first point, one leads to each.
abbrev pub block_marks : Program → Knowledge → ℕ → PointMarks
block_marks program known leader = record {
  reached = (marks_at program known leader).reached;
  unset = list_any (λ point. (marks_at program known point).unset) (block_points program leader);
  dead = list_any (λ point. (marks_at program known point).dead) (block_points program leader);
  doubtful = list_any (λ point. (marks_at program known point).doubtful) (block_points program leader);
}

abbrev pub block_class : PointMarks → List ℕ
block_class marks =
    codes "block" ++ text_if (not marks.reached) (codes " unreached") ++ text_if marks.unset (codes " unset")
    ++ text_if marks.dead (codes " dead") ++ text_if marks.doubtful (codes " doubtful")

-- a block is called after its first point
abbrev pub block_names : ℕ → PointMarks → List ℕ
block_names leader marks = codes " [id=\"block" ++ decimal leader ++ codes "\", class=\"" ++ block_class marks ++ codes "\", label=\""

-- a node, behind its number
abbrev pub block_body : Program → Knowledge → View → ℕ → List ℕ
block_body program known view leader =
    block_names leader (block_marks program known leader) ++ label_text program known view leader ++ codes "\""
    ++ tooltip program known view leader ++ look_of (block_marks program known leader) ++ codes "];\n"

abbrev pub block_node : Program → Knowledge → View → ℕ → List ℕ
block_node program known view leader = codes "    " ++ decimal leader ++ block_body program known view leader

-- an edge out of a block's last point leads from the block to one: its target is a leader
abbrev pub block_edge : Program → ℕ → Edge → List ℕ
block_edge program leader (Step source target) = arrow leader target ++ outcome_mark (outcome program source target) ++ codes ";\n"
block_edge program leader (Call site source target) = arrow leader target ++ across (codes "call") (line_at program site)
block_edge program leader (Ret site source target) = arrow leader target ++ across (codes "return") (line_at program site)

abbrev pub shown_edge : Program → View → ℕ → Edge → List ℕ
shown_edge program view leader edge = if is_edge_shown program view edge then block_edge program leader edge else []

abbrev pub edge_lines : Program → View → ℕ → List ℕ
edge_lines program view leader =
    flat_map (shown_edge program view leader) (edges_from program (block_last program leader)) ++ passed_call program leader

-- what is written of a leader; of other points nothing is
abbrev pub if_leader : Program → (ℕ → List ℕ) → ℕ → List ℕ
if_leader program text point = if is_leader program point then text point else []

-- A legend, as that of a picture of points, but for what the lines of facts tell.
abbrev pub legend_sets : List ℕ
legend_sets =
    codes "ANALYSIS gen: what it generates and does not kill beyond\\lANALYSIS kill: what its statements kill\\l"
    ++ codes "ANALYSIS IN: what holds before it\\lANALYSIS OUT: what holds behind it\\l"

abbrev pub block_legend : List ℕ
block_legend = legend_begin ++ legend_sets ++ legend_marks ++ legend_edges

-- the picture
abbrev pub block_dot_of : Program → Knowledge → View → List ℕ
block_dot_of program known view =
    head ++ shown_clusters_of (if_leader program (block_node program known view)) program view.procedure
    ++ flat_map (if_leader program (edge_lines program view)) (shown_points program view) ++ text_if view.look.legend block_legend ++ codes "}\n"

-- The text is the picture of the meets over all valid paths.
pub record IsBlockDot (program : Program) (view : View) (text : List ℕ) : Type 0 where
  pub known : Knowledge
  pub is_known : IsKnowledge program known
  pub is_text : text ≡ block_dot_of program known view
