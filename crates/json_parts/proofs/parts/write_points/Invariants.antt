use Rattle.std.proofs.Common.{flat_map}
use Rattle.std.specs.List.{range_with_len}
use Rattle.flow_reports.specs.code.Findings.{knowledge_of}
use Rattle.flow_views.specs.Json.{point_line}
use Rattle.json_parts.specs.JsonParts.{no_facts}
use Rattle.text_pieces.specs.Pieces.{Writes}
use Rattle.json_parts.proofs.parts.write_points.Given as goal

abbrev pub invariant-loop-point : goal.invariant-loop-point
invariant-loop-point g l =
    Writes g.K.Sink l.fn.out l.out (flat_map (point_line l.found.graph.now (knowledge_of l.found) no_facts) (range_with_len 0 l.point))
