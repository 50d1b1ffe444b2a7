-- The pieces of a line, and how it is defined.
use Rattle.std.proofs.Common.{◌≡◌, ◌++◌, List, ℕ, codes, decimal, ap, ◌∙◌, append_assoc}
use Rattle.tac_program.specs.Programs.{Program}
use Rattle.flow_reports.specs.Reports.{remark_line, remark_text}
use Rattle.flow_reports.specs.code.Findings.{remark_name, words_before, words_behind}
use Rattle.flow_reports.proofs.knowledge.RemarkLines.{text_is}
use Rattle.flow_reports.specs.declared.remark.Remark.{Remark}
use Rattle.flow_texts.specs.Tables.{line_at}
use Rattle.text_pieces.proofs.sinks.Taking.{takes_as, takes_then}
use Rattle.flow_parts.proofs.part_lines.write_line.Goals as goal

pieces : (d k colon w before n m e behind end text : List ℕ) → d ≡ k → w ≡ before → n ≡ m → e ≡ behind → before ++ m ++ behind ≡ text
    → d ++ colon ++ w ++ n ++ e ++ end ≡ k ++ colon ++ text ++ end
pieces d k colon w before n m e behind end text same first named last all =
    (λ i. same i ++ colon ++ first i ++ named i ++ last i ++ end) ∙ regroup k colon before m behind end ∙ ap (λ t. k ++ colon ++ t ++ end) all
  where
    regroup : (a b c d e f : List ℕ) → a ++ b ++ c ++ d ++ e ++ f ≡ a ++ b ++ (c ++ d ++ e) ++ f
    regroup a b c d e f = simp append_assoc

pub returns : goal.returns
returns g c =
    let program : Program = c.args.found.now.graph.now in
    let remark : Remark = c.args.remark in
    takes_as _ _ _ (remark_line program c.args.point remark)
    (takes_then _ _ _ _ _
    (takes_then _ _ _ _ _ (takes_then _ _ _ _ _ (takes_then _ _ _ _ _ (takes_then _ _ _ _ _ c.write_number.ensures c.write.ensures)
    c.write-2.ensures) c.write-3.ensures) c.write-4.ensures) c.write-5.ensures)
    (pieces (decimal c.line.result) (decimal (line_at program c.args.point)) (codes ": ") c.words_before_name.result.now (words_before remark)
    c.chosen_name.result.now (remark_name program remark) c.words_behind_name.result.now (words_behind remark) (codes "\n") (remark_text program remark)
    (ap decimal c.line.ensures) c.words_before_name.ensures c.chosen_name.ensures c.words_behind_name.ensures (text_is program remark))
