use Rattle.std.proofs.Common.{ap}
use Rattle.text_pieces.proofs.sinks.Taking.{takes_as, takes_then}
use Rattle.flow_reports.specs.Listed.{remarks_of}
use Rattle.flow_reports.specs.code.Findings.{knowledge_of}
use Rattle.call_dots.specs.CallDots.{marked_node}
use Rattle.call_dots.proofs.texts.write_node.Goals as goal

pub returns : goal.returns
returns g c =
    let program = c.args.shown.now.found.graph.now in
    takes_as _ _ _ _ (takes_then _ _ _ _ _ (takes_then _ _ _ _ _ (takes_then _ _ _ _ _ (takes_then _ _ _ _ _ c.write_node_names.ensures
    c.write_label.ensures) c.write.ensures) c.write_look.ensures) c.write-2.ensures)
    (ap (marked_node program (remarks_of program (knowledge_of c.args.shown.now.found)) c.args.procedure) c.marks_of-marks.ensures)
