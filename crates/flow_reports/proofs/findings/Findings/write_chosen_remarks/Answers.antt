use Rattle.std.proofs.Common.{List, ℕ, true, false, flat_map, append-nil, ap, ◌∙◌, sym}
use Rattle.tac_program.specs.Programs.{Program}
use Rattle.flow_reports.specs.code.Findings.{knowledge_of}
use Rattle.flow_reports.specs.declared.remark.Remark.{Remark}
use Rattle.flow_reports.specs.declared.remark.Remark.TheVariants.{NeverReached}
use Rattle.flow_reports.proofs.knowledge.RemarkLines.{remarks_if}
use Rattle.text_pieces.proofs.sinks.Taking.{takes_as}
use Rattle.flow_reports.proofs.findings.Findings.write_chosen_remarks.Goals as goal

pub returns-then-reaches : goal.returns-then-reaches
returns-then-reaches g c =
    let program : Program = c.args.self.now.graph.now in
    let text : Remark → List ℕ = g.F.ChosenForm.text c.args.form.now program c.args.point in
    takes_as _ _ _ _ c.write_when_reached.ensures
    (ap (flat_map text) (sym (remarks_if program (knowledge_of c.args.self.now) c.args.point c.in-Some.stmt.now true (sym c.in-Some.ensures.stmt)
    (sym c.reaches.ensures ∙ c.if-reaches.true))))

pub returns : goal.returns
returns g c =
    let program : Program = c.args.self.now.graph.now in
    let text : Remark → List ℕ = g.F.ChosenForm.text c.args.form.now program c.args.point in
    takes_as _ _ _ _ c.write_remark.ensures
    (sym (ap (flat_map text) (remarks_if program (knowledge_of c.args.self.now) c.args.point c.in-Some.stmt.now false (sym c.in-Some.ensures.stmt)
    (sym c.reaches.ensures ∙ c.if-reaches.false))
    ∙ append-nil (text NeverReached)))
