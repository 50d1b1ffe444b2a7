use Rattle.tac_program.specs.Programs.{Program}
use Rattle.flow_reports.specs.code.Findings.{knowledge_of}
use Rattle.flow_reports.proofs.knowledge.RemarkLines.{remarks_are}
use Rattle.text_pieces.proofs.sinks.Taking.{takes_as, takes_then}
use Rattle.flow_reports.proofs.findings.Findings.write_when_reached.Goals as goal

pub returns : goal.returns
returns g c =
    let program : Program = c.args.self.now.graph.now in
    takes_as _ _ _ _
    (takes_then _ _ _ _ _ (takes_then _ _ _ _ _ (takes_then _ _ _ _ _ c.write_unset.ensures c.write_computed.ensures)
    c.write_busy.ensures) c.write_dead.ensures)
    (remarks_are program (knowledge_of c.args.self.now) c.args.point (g.F.ChosenForm.text c.args.form.now program c.args.point))
