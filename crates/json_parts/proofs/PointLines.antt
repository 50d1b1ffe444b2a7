-- The lines of points without facts, by which points are doubtful.
use Rattle.std.proofs.Common.{◌≡◌, ℕ, ◌<◌, Bool, List, ◌++◌, codes, decimal, sym, ap, ◌∙◌, append-nil, arith}
use Rattle.flow_graph.specs.Points.{place_of, point_count, procedure_at}
use Rattle.flow_reports.specs.Reports.{Knowledge}
use Rattle.flow_reports.proofs.knowledge.KnownReports.{same_texts}
use Rattle.flow_views.specs.Json.{point_line, point_parts, span_fields}
use Rattle.flow_views.specs.Views.{procedure_name}
use Rattle.json_parts.specs.JsonParts.{no_facts, point_lines}
use Rattle.json_texts.specs.code.Outlines.{bare_point_line}
use Rattle.tac_program.specs.Programs.{Program}
use Rattle.text_pieces.specs.Strings.{quoted}

-- the line of a point is that without facts
pub line_is : (program : Program) (known : Knowledge) (point : ℕ)
    → bare_point_line program (known.doubtful point) point ≡ point_line program known no_facts point
line_is program known point =
    let front : List ℕ = codes "{\"type\":\"point\",\"point\":" ++ decimal point
    ++ codes ",\"procedure\":" ++ quoted (procedure_name program (procedure_at program point))
    ++ codes ",\"place\":" ++ decimal (place_of program point).place
    ++ span_fields program point ++ point_parts program known point in
    ap (λ t. t ++ codes "}\n") (sym (append-nil front))

-- what knows the same points as doubtful makes the same lines
pub same_lines : (program : Program) (one other : Knowledge)
    → ((point : ℕ) → point < point_count program → one.doubtful point ≡ other.doubtful point) → point_lines program one ≡ point_lines program other
same_lines program one other same =
    same_texts (point_line program one no_facts) (point_line program other no_facts) 0 (point_count program)
    (λ point from to.
    sym (line_is program one point) ∙ ap (λ (d : Bool). bare_point_line program d point) (same point (omega (arith, to)))
    ∙ line_is program other point)
