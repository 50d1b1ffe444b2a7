-- A picture in which one path is marked: that of a use of a variable that may not be set there, which a text names by its line, or by its line
-- and the variable (`12`, `12:x`). The path is a witness that the variable's value at the beginning reaches the use (interprocedurally valid
-- paths: Reps, Horwitz, Sagiv 1995).
use Rattle.std.specs.Prelude.{◌≡◌, ℕ, ◌-◌, ◌&&◌, ◌||◌, Bool, List, [], ◌∷◌, ◌++◌, flat_map, Option, Some, None, if◌then◌else◌, bytes_eq, codes, decimal}
use Rattle.std.specs.Prelude.{nat_le, nat_lt}
use Rattle.std.specs.List.{filter}
use Rattle.flow_graph.specs.Analyses.{shape_of, transfer_of}
use Rattle.flow_graph.specs.declared.analysis.Analysis.TheVariants.{Reach}
use Rattle.flow_reports.specs.Reports.{IsKnowledge, Knowledge}
use Rattle.flow_reports.specs.Uses.{unset_uses}
use Rattle.flow_reports.specs.declared.unset.UnsetUse.{UnsetUse}
use Rattle.flow_texts.specs.Tables.{line_at, variable_text}
use Rattle.flow_views.specs.Dots.{arrow, open_dot, text_if}
use Rattle.flow_views.specs.Views.{end_shown, first_shown}
use Rattle.flow_views.specs.declared.view.View.{View}
use Rattle.flow_why.specs.Witnesses.{IsWitness}
use Rattle.flow_why.specs.declared.hop.Hop.{Hop}
use Rattle.flow_why.specs.declared.hop.Hop.TheVariants as hop
use Rattle.tac_program.specs.Programs.{Program}

-- whether a text names a use: `LINE`, or `LINE:NAME`
abbrev pub is_named : Program → List ℕ → UnsetUse → Bool
is_named program text one =
    bytes_eq text (decimal (line_at program one.point))
    || bytes_eq text (decimal (line_at program one.point) ++ codes ":" ++ variable_text program one.variable)

-- The uses that are shown: those of a report, of one procedure those in it. The one that is asked for is the first that the text names.
abbrev pub uses_shown : Program → Knowledge → View → List UnsetUse
uses_shown program known view =
    unset_uses program known (first_shown program view.procedure) (end_shown program view.procedure - first_shown program view.procedure)

abbrev pub first_use : List UnsetUse → Option UnsetUse
first_use [] = None
first_use (one ∷ others) = Some one

abbrev pub asked_use : Program → Knowledge → View → List ℕ → Option UnsetUse
asked_use program known view text = first_use (filter (is_named program text) (uses_shown program known view))

-- Marks: a node and an edge are blue and thick. What is not shown has none.
abbrev pub is_point_shown : Program → View → ℕ → Bool
is_point_shown program view point = nat_le (first_shown program view.procedure) point && nat_lt point (end_shown program view.procedure)

abbrev pub point_mark : (ℕ → Bool) → ℕ → List ℕ
point_mark shows point = if shows point then codes "  " ++ decimal point ++ codes " [color=blue, penwidth=3];\n" else []

abbrev pub arrow_mark : (ℕ → Bool) → ℕ → ℕ → List ℕ → List ℕ
arrow_mark shows x y more = if shows x && shows y then arrow x y ++ codes " [color=blue, penwidth=3" ++ more ++ codes "];\n" else []

-- a call that is passed as a whole: the line to the point behind it is dashed then, and has a head
abbrev pub hop_marks : (ℕ → Bool) → Hop → List ℕ
hop_marks shows (hop.Step x y) = point_mark shows x ++ arrow_mark shows x y []
hop_marks shows (hop.Enter site x y) = point_mark shows x ++ arrow_mark shows x y []
hop_marks shows (hop.Pass site x callee z effect) = point_mark shows x ++ arrow_mark shows x z (codes ", style=dashed, arrowhead=normal")

-- a line more of the legend, where there is one
abbrev pub path_legend : Bool → List ℕ
path_legend is_asked =
    text_if is_asked (codes "  subgraph \"cluster_legend\" {\n    legend8 [class=\"legend\", shape=box, label=\"on the path\", color=blue, penwidth=3];\n"
    ++ codes "    legend7 -> legend8 [class=\"legend\", style=invis];\n  }\n")

-- The picture, in which marks of a node or an edge are put to what is told of it before: Graphviz does so in a strict graph.
abbrev pub marked_dot : (ℕ → Bool) → List ℕ → List Hop → ℕ → List ℕ → List ℕ
marked_dot shows picture hops point more =
    codes "strict " ++ picture ++ flat_map (hop_marks shows) hops ++ point_mark shows point ++ more ++ codes "}\n"

-- The text is the picture of the meets over all valid paths, with a path of the use that is asked for.
pub record IsDotWithPath (program : Program) (view : View) (text out : List ℕ) : Type 0 where
  pub known : Knowledge
  pub is_known : IsKnowledge program known
  pub one : UnsetUse
  pub is_asked : asked_use program known view text ≡ Some one
  pub hops : List Hop
  pub is_witness : IsWitness (shape_of program) (transfer_of program Reach one.variable) one.point hops
  pub is_text : out ≡ marked_dot (is_point_shown program view) (open_dot program known view) hops one.point (path_legend view.look.legend)

-- No use is asked for.
pub record LacksUse (program : Program) (view : View) (text : List ℕ) : Type 0 where
  pub known : Knowledge
  pub is_known : IsKnowledge program known
  pub none : asked_use program known view text ≡ None
