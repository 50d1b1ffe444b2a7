use Rattle.std.proofs.Common.{ℕ, List, flat_map, append-nil, ap, ◌∙◌, sym}
use Rattle.tac_program.specs.Programs.{Program}
use Rattle.flow_reports.specs.code.Findings.{knowledge_of}
use Rattle.flow_reports.specs.declared.remark.Remark.TheVariants.{Computed}
use Rattle.flow_reports.proofs.knowledge.RemarkLines.{computed_is}
use Rattle.text_pieces.proofs.sinks.Taking.{takes_as}
use Rattle.flow_reports.proofs.findings.Findings.write_computed.Goals as goal

pub returns : goal.returns
returns g c =
    let program : Program = c.args.self.now.graph.now in
    let bit : ℕ = c.in-Some.bit in
    let text : ℕ → List ℕ = λ e. g.F.ChosenForm.text c.args.form.now program c.args.point (Computed e) in
    takes_as _ _ _ _ c.write_remark.ensures
    (sym (ap (flat_map text) (computed_is program (knowledge_of c.args.self.now) c.args.point bit (sym c.in-Some.ensures) (sym c.is_computed.ensures
    ∙ c.if-not-is_computed.false))
    ∙ append-nil (text bit)))
