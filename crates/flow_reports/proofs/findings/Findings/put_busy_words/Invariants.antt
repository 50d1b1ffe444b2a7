use Rattle.std.proofs.Common.{◌≡◌, ◌*◌, ◌++◌, ℕ, map, min}
use Rattle.flow_graph.specs.Universes.{bits}
use Rattle.flow_graph.specs.declared.analysis.Analysis.TheVariants.{Busy}
use Rattle.flow_reports.specs.Listed.{placed_at}
use Rattle.report_answers.specs.code.Busy.{AreBusy}
use Rattle.flow_reports.specs.code.Findings.{knowledge_of}
use Rattle.flow_reports.specs.declared.remark.Remark.TheVariants.{VeryBusy}
use Rattle.flow_reports.proofs.knowledge.Listed.{members}
use Rattle.flow_reports.proofs.findings.Findings.put_busy_words.Given as goal

abbrev pub invariant-loop-busy : goal.invariant-loop-busy
invariant-loop-busy l = record {
  from : ℕ;
  answered : AreBusy l.self.answers.now.chosen l.self.graph.now l.self.answers.now.busy.words l.point from l.next;
  put : l.remarks.items ≡ l.initial.remarks.items ++ placed_at l.point (map (λ e. VeryBusy e)
      (members ((knowledge_of l.self).busy.contains l.point) 0 (min (bits l.self.graph.now Busy) (64 * from))));
}

abbrev pub decreases-loop-busy : goal.decreases-loop-busy
decreases-loop-busy l = l.next
