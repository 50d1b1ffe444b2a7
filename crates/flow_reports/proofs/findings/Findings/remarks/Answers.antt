use Rattle.std.proofs.Common.{◌∙◌, ℕ, ◌++◌, List, sym, ap}
use Rattle.flow_graph.proofs.lists.Ranges.{flat_map-range_more}
use Rattle.flow_reports.specs.Listed.{placed_at}
use Rattle.flow_reports.specs.Reports.{remarks_at}
use Rattle.flow_reports.specs.code.Findings.{knowledge_of}
use Rattle.flow_reports.specs.declared.listed.PlacedRemark.{PlacedRemark}
use Rattle.flow_reports.proofs.knowledge.KnownReports.{chosen_findings}
use Rattle.flow_reports.proofs.findings.Findings.remarks.Goals as goal

pub loop-point-preserved : goal.loop-point-preserved
loop-point-preserved c =
    let at : ℕ → List PlacedRemark = λ point. placed_at point (remarks_at c.args.self.now.graph.now (knowledge_of c.args.self.now) point) in
    c.in_ok-put_remarks.ensures
    ∙ ap (λ rs. rs ++ at c.loop-point.point) c.loop-point.invariant
    ∙ sym (flat_map-range_more at c.loop-point.point)

pub put_remarks-requires-clause-found : goal.put_remarks-requires-clause-found
put_remarks-requires-clause-found c = chosen_findings c.args.self.now c.requires
