-- What is made once is what each line begins with.
use Rattle.std.proofs.Common.{flat_map, ap}
use Rattle.tac_program.specs.Programs.{Program}
use Rattle.flow_reports.specs.code.Findings.{knowledge_of, line_behind}
use Rattle.flow_reports.specs.Reports.{remarks_at}
use Rattle.text_pieces.proofs.sinks.Taking.{takes_as}
use Rattle.flow_reports.proofs.findings.Findings.write_lines.Goals as goal

pub returns : goal.returns
returns g c =
    let program : Program = c.args.self.now.graph.now in
    takes_as _ _ _ _ c.write_remarks.ensures
    (ap (λ head. flat_map (line_behind head program) (remarks_at program (knowledge_of c.args.self.now) c.args.point)) c.requires.head)
