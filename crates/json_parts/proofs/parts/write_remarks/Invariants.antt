use Rattle.std.proofs.Common.{flat_map}
use Rattle.std.specs.List.{range_with_len}
use Rattle.flow_parts.proofs.WrittenLines.{texts_in}
use Rattle.flow_reports.specs.code.Findings.{knowledge_of}
use Rattle.flow_views.specs.Json.{remark_object}
use Rattle.text_pieces.specs.Pieces.{Writes}
use Rattle.json_parts.proofs.parts.write_remarks.Given as goal

abbrev pub invariant-loop-point : goal.invariant-loop-point
invariant-loop-point g l =
    Writes g.K.Sink l.fn.out l.out
    (flat_map (texts_in (remark_object l.found.graph.now) l.found.graph.now (knowledge_of l.found) l.share.count l.share.part)
    (range_with_len 0 l.point))
