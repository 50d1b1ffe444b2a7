use Rattle.std.proofs.Common.{ℕ, List, ◌∙◌, sym}
use Rattle.flow_reports.specs.code.Findings.{knowledge_of}
use Rattle.flow_reports.specs.declared.remark.Remark.TheVariants.{Unset}
use Rattle.flow_texts.proofs.sets.RangeLines.{one_text}
use Rattle.text_pieces.proofs.sinks.Taking.{takes_as}
use Rattle.flow_reports.proofs.findings.Findings.write_unset_variable.Goals as goal

pub returns : goal.returns
returns g c =
    let text : ℕ → List ℕ = λ v. g.F.ChosenForm.text c.args.form.now c.args.self.now.graph.now c.args.point (Unset v) in
    takes_as _ _ _ _ c.write_remark.ensures
    (sym (one_text text ((knowledge_of c.args.self.now).reach.contains c.args.point) c.args.variable (sym c.may_be_unset.ensures
    ∙ c.if-not-may_be_unset.false)))
