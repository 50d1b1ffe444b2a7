use Rattle.std.proofs.Common.{◌≡◌, flat_map}
use Rattle.std.specs.List.{range_with_len}
use Rattle.flow_reports.specs.Listed.{placed_at}
use Rattle.flow_reports.specs.Reports.{remarks_at}
use Rattle.flow_reports.specs.code.Findings.{knowledge_of}
use Rattle.flow_reports.proofs.findings.Findings.remarks.Given as goal

abbrev pub invariant-loop-point : goal.invariant-loop-point
invariant-loop-point l =
    l.remarks.items ≡ flat_map (λ point. placed_at point (remarks_at l.self.graph.now (knowledge_of l.self) point)) (range_with_len 0 l.point)
