use Rattle.std.proofs.Common.{◌++◌, ℕ, List, codes, ap}
use Rattle.text_pieces.proofs.sinks.Taking.{takes_as, takes_then}
use Rattle.flow_reports.specs.Listed.{remarks_of}
use Rattle.flow_reports.specs.code.Findings.{knowledge_of}
use Rattle.text_pieces.specs.Strings.{escaped}
use Rattle.call_dots.specs.CallDots.{count_lines, size_line}
use Rattle.call_dots.proofs.texts.write_label.Goals as goal

pub returns : goal.returns
returns g c =
    let program = c.args.shown.now.found.graph.now in
    let rest : List ℕ = count_lines program (remarks_of program (knowledge_of c.args.shown.now.found)) c.args.procedure in
    takes_as _ _ _ _ (takes_then _ _ _ _ _ (takes_then _ _ _ _ _ (takes_then _ _ _ _ _ c.write_escaped.ensures c.write.ensures)
    c.write_size_line.ensures) c.write_count_lines.ensures)
    (ap (λ (name : List ℕ). escaped name ++ codes "\\l" ++ size_line program c.args.procedure ++ rest) c.name_of_procedure.ensures)
