-- The words of a remark and its name, behind what the line begins with.
use Rattle.std.proofs.Common.{◌≡◌, ◌++◌, List, ℕ, codes, ap, ◌∙◌, append_assoc}
use Rattle.tac_program.specs.Programs.{Program}
use Rattle.flow_reports.specs.code.Findings.{remark_name, words_before, words_behind}
use Rattle.flow_reports.specs.Reports.{remark_text}
use Rattle.flow_reports.specs.declared.remark.Remark.{Remark}
use Rattle.flow_reports.proofs.knowledge.RemarkLines.{text_is}
use Rattle.text_pieces.proofs.sinks.Taking.{takes_as, takes_then}
use Rattle.flow_reports.proofs.reports.ReportLineRemarkForm.write_remark.Goals as goal

regroup : (h b n e t : List ℕ) → h ++ b ++ n ++ (e ++ t) ≡ h ++ (b ++ n ++ e) ++ t
regroup h b n e t = simp append_assoc

-- the pieces of a line, and how it is defined
pieces : (head before n e t name behind text : List ℕ) → name ≡ n → behind ≡ e ++ t → before ++ n ++ e ≡ text
    → head ++ before ++ name ++ behind ≡ head ++ text ++ t
pieces head before n e t name behind text named last all =
    ap (λ m. head ++ before ++ m ++ behind) named
    ∙ ap (λ m. head ++ before ++ n ++ m) last
    ∙ regroup head before n e t
    ∙ ap (λ m. head ++ m ++ t) all

pub returns : goal.returns
returns g c =
    let program : Program = c.args.found.now.graph.now in
    let remark : Remark = c.args.remark in
    takes_as _ _ _ _
    (takes_then _ _ _ _ _ (takes_then _ _ _ _ _ (takes_then _ _ _ _ _ c.write.ensures c.write_before_name.ensures)
    c.write-2.ensures) c.write-3.ensures)
    (pieces c.args.self.now.head.now (words_before remark) (remark_name program remark) (words_behind remark) (codes "\n")
    c.name.result.now c.words_to_end.result.now (remark_text program remark)
    c.name.ensures c.words_to_end.ensures (text_is program remark))
