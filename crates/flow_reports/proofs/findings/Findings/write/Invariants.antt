use Rattle.std.proofs.Common.{◌++◌, flat_map}
use Rattle.std.specs.List.{range_with_len}
use Rattle.flow_reports.specs.code.Findings.{knowledge_of}
use Rattle.text_pieces.specs.Pieces.{Writes}
use Rattle.flow_reports.specs.Reports.{count_line, lines_at}
use Rattle.flow_reports.proofs.findings.Findings.write.Given as goal

abbrev pub invariant-loop-point : goal.invariant-loop-point
invariant-loop-point g l =
    Writes g.K.Sink l.fn.out l.out
    (count_line l.self.graph.now ++ flat_map (lines_at l.self.graph.now (knowledge_of l.self)) (range_with_len 0 l.point))
