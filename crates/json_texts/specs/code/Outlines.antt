-- What the code is told of a point, and the text that it makes of it.
use Rattle.std.specs.Prelude.{◌≡◌, ℕ, ◌<◌, Bool, List, ◌++◌, map, codes, decimal}
use Rattle.flow_graph.specs.Edges.{edges_from}
use Rattle.flow_graph.specs.Points.{place_of, point_count, procedure_at}
use Rattle.flow_views.specs.Json.{array, boolean, point_edge, span_fields, statement_field}
use Rattle.flow_views.specs.Views.{label_name, labels_at, procedure_name}
use Rattle.json_texts.specs.declared.outlines.PointOutline.{PointOutline}
use Rattle.tac_program.specs.Programs.{Program}
use Rattle.text_pieces.specs.Strings.{quoted}

-- The point is one of the program, and the edges are those out of it.
pub record IsOutline (outline : PointOutline) : Type 0 where
  pub point : outline.point < point_count outline.graph.now
  pub edges : outline.edges.now ≡ edges_from outline.graph.now outline.point

-- the labels of a point, its statement, and whether it is doubtful
abbrev pub point_front : Program → (doubtful : Bool) → ℕ → List ℕ
point_front program doubtful point =
    codes ",\"labels\":" ++ array (map (λ label. quoted (label_name program point label)) (labels_at program point))
    ++ codes ",\"statement\":" ++ statement_field program point
    ++ codes ",\"doubtful\":" ++ boolean doubtful

-- these and its edges
abbrev pub point_fields : Program → (doubtful : Bool) → ℕ → List ℕ
point_fields program doubtful point =
    point_front program doubtful point ++ codes ",\"edges\":" ++ array (map (point_edge program) (edges_from program point))

-- the line of a point without facts
abbrev pub bare_point_line : Program → (doubtful : Bool) → ℕ → List ℕ
bare_point_line program doubtful point =
    codes "{\"type\":\"point\",\"point\":" ++ decimal point
    ++ codes ",\"procedure\":" ++ quoted (procedure_name program (procedure_at program point))
    ++ codes ",\"place\":" ++ decimal (place_of program point).place
    ++ span_fields program point ++ point_fields program doubtful point ++ codes "}\n"
