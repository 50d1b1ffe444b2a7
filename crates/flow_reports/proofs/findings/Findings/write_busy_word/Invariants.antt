use Rattle.std.proofs.Common.{◌≡◌, ◌-◌, ◌<◌, ◌≤◌, true, min}
use Rattle.std.specs.List.{range_with_len}
use Rattle.bit_rows.specs.Words.{has_bit}
use Rattle.flow_reports.specs.code.Findings.{knowledge_of}
use Rattle.flow_texts.specs.code.Members.{texts_where}
use Rattle.text_pieces.specs.Pieces.{Writes}
use Rattle.flow_reports.specs.declared.remark.Remark.TheVariants.{VeryBusy}
use Rattle.flow_reports.proofs.findings.Findings.write_busy_word.Given as goal

abbrev pub invariant-loop-place : goal.invariant-loop-place
invariant-loop-place g l = record {
  within : l.place ≤ 64;
  one : l.place < 64 → has_bit l.fn.word.ones l.place ≡ true;
  writes : Writes g.K.Sink l.fn.out l.out
      (texts_where (λ e. g.F.ChosenForm.text l.form l.self.graph.now l.point (VeryBusy e)) ((knowledge_of l.self).busy.contains l.point)
      (range_with_len l.fn.word.first (min l.width l.place)));
}

abbrev pub decreases-loop-place : goal.decreases-loop-place
decreases-loop-place g l = 64 - l.place
