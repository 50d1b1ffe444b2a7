use Rattle.std.proofs.Common.{List, ℕ, ◌++◌, codes, ap}
use Rattle.text_pieces.proofs.sinks.Taking.{takes_as, takes_then}
use Rattle.tac_program.specs.Programs.{Program}
use Rattle.flow_reports.specs.Reports.{Knowledge}
use Rattle.flow_views.specs.Dots.{look_of}
use Rattle.flow_views.specs.code.ViewProgram.{known_of}
use Rattle.flow_views.specs.declared.marks.PointMarks.{PointMarks}
use Rattle.block_dots.specs.BlockDots.{block_names, label_text, tooltip}
use Rattle.block_dots.proofs.nodes.write_body.Goals as goal

pub returns : goal.returns
returns g c =
    let program : Program = c.args.shown.now.found.graph.now in
    let known : Knowledge = known_of c.args.shown.now in
    let leader : ℕ = c.args.block.leader in
    let label : List ℕ = label_text program known c.args.shown.now.view leader in
    let hover : List ℕ = tooltip program known c.args.shown.now.view leader in
    takes_as _ _ _ _
    (takes_then _ _ _ _ _ (takes_then _ _ _ _ _ (takes_then _ _ _ _ _ (takes_then _ _ _ _ _ (takes_then _ _ _ _ _
    c.write_block_names.ensures c.write_label.ensures) c.write.ensures) c.write_tooltip.ensures) c.write_look.ensures) c.write-2.ensures)
    (ap (λ (m : PointMarks). block_names leader m ++ label ++ codes "\"" ++ hover ++ look_of m ++ codes "];\n") c.marks_of-marks.ensures)
