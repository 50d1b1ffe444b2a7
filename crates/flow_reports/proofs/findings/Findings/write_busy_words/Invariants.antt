use Rattle.std.proofs.Common.{◌*◌, ℕ, min}
use Rattle.std.specs.List.{range_with_len}
use Rattle.flow_graph.specs.Universes.{bits}
use Rattle.flow_graph.specs.declared.analysis.Analysis.TheVariants.{Busy}
use Rattle.report_answers.specs.code.Busy.{AreBusy}
use Rattle.flow_reports.specs.code.Findings.{knowledge_of}
use Rattle.flow_texts.specs.code.Members.{texts_where}
use Rattle.text_pieces.specs.Pieces.{Writes}
use Rattle.flow_reports.specs.declared.remark.Remark.TheVariants.{VeryBusy}
use Rattle.flow_reports.proofs.findings.Findings.write_busy_words.Given as goal

abbrev pub invariant-loop-busy : goal.invariant-loop-busy
invariant-loop-busy g l = record {
  from : ℕ;
  answered : AreBusy l.self.answers.now.chosen l.self.graph.now l.self.answers.now.busy.words l.point from l.next;
  writes : Writes g.K.Sink l.fn.out l.out
      (texts_where (λ e. g.F.ChosenForm.text l.form l.self.graph.now l.point (VeryBusy e)) ((knowledge_of l.self).busy.contains l.point)
      (range_with_len 0 (min (bits l.self.graph.now Busy) (64 * from))));
}

abbrev pub decreases-loop-busy : goal.decreases-loop-busy
decreases-loop-busy g l = l.next
