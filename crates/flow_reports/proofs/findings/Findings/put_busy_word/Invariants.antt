use Rattle.std.proofs.Common.{◌≡◌, ◌++◌, map}
use Rattle.flow_reports.specs.Listed.{placed_at}
use Rattle.flow_reports.specs.code.Findings.{knowledge_of}
use Rattle.flow_reports.specs.declared.remark.Remark.TheVariants.{VeryBusy}
use Rattle.flow_reports.proofs.knowledge.Listed.{members}
use Rattle.flow_reports.proofs.findings.Findings.put_busy_word.Given as goal

abbrev pub invariant-loop-place : goal.invariant-loop-place
invariant-loop-place l =
    l.remarks.items
    ≡ l.initial.remarks.items ++ placed_at l.point (map (λ e. VeryBusy e) (members ((knowledge_of l.self).busy.contains l.point) l.first l.place))
