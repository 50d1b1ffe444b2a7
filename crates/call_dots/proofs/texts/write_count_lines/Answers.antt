use Rattle.std.proofs.Common.{List, codes, ap}
use Rattle.text_pieces.proofs.sinks.Taking.{takes_as, takes_then}
use Rattle.flow_reports.specs.Listed.{remarks_of}
use Rattle.flow_reports.specs.declared.listed.PlacedRemark.{PlacedRemark}
use Rattle.flow_reports.specs.code.Findings.{knowledge_of}
use Rattle.tac_program.specs.Programs.{Program}
use Rattle.call_dots.specs.CallDots.{count_line}
use Rattle.call_dots.proofs.drawn.Nodes.{count_read}
use Rattle.call_dots.proofs.texts.write_count_lines.Goals as goal

pub returns : goal.returns
returns g c =
    let program : Program = c.args.shown.now.found.graph.now in
    let remarks : List PlacedRemark = remarks_of program (knowledge_of c.args.shown.now.found) in
    let counts = c.args.shown.now.counts in
    let are = c.requires.shown.counts in
    let p = c.args.procedure in
    let low = c.requires.procedure in
    takes_then _ _ _ _ _ (takes_then _ _ _ _ _ (takes_then _ _ _ _ _ (takes_then _ _ _ _ _
    (takes_as _ _ _ _ c.write_count_line.ensures (ap (count_line (codes "never reached"))
    (count_read program remarks 0 counts.never_reached.items p _ are.never_reached low c.index.ensures)))
    (takes_as _ _ _ _ c.write_count_line-2.ensures (ap (count_line (codes "may be used before it is set"))
    (count_read program remarks 1 counts.unset.items p _ are.unset low c.index-2.ensures))))
    (takes_as _ _ _ _ c.write_count_line-3.ensures (ap (count_line (codes "is already computed"))
    (count_read program remarks 2 counts.computed.items p _ are.computed low c.index-3.ensures))))
    (takes_as _ _ _ _ c.write_count_line-4.ensures (ap (count_line (codes "is very busy"))
    (count_read program remarks 3 counts.busy.items p _ are.busy low c.index-4.ensures))))
    (takes_as _ _ _ _ c.write_count_line-5.ensures (ap (count_line (codes "assignment is dead"))
    (count_read program remarks 4 counts.dead.items p _ are.dead low c.index-5.ensures)))
