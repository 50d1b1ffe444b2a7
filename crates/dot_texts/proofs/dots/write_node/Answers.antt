use Rattle.std.proofs.Common.{List, ℕ, ◌++◌, codes, ap}
use Rattle.text_pieces.proofs.sinks.Taking.{takes_as, takes_then}
use Rattle.tac_program.specs.Programs.{Program}
use Rattle.flow_reports.specs.Reports.{Knowledge}
use Rattle.flow_views.specs.Dots.{label_text, look_of, node_names, tooltip}
use Rattle.flow_views.specs.code.ViewProgram.{known_of}
use Rattle.flow_views.specs.declared.marks.PointMarks.{PointMarks}
use Rattle.dot_texts.proofs.dots.write_node.Goals as goal

pub returns : goal.returns
returns g c =
    let program : Program = c.args.shown.now.found.graph.now in
    let known : Knowledge = known_of c.args.shown.now in
    let label : List ℕ = label_text program known c.args.shown.now.view c.args.point in
    let hover : List ℕ = tooltip program known c.args.shown.now.view c.args.point in
    takes_as _ _ _ _
    (takes_then _ _ _ _ _ (takes_then _ _ _ _ _ (takes_then _ _ _ _ _ (takes_then _ _ _ _ _ (takes_then _ _ _ _ _
    c.write_node_names.ensures c.write_label.ensures) c.write.ensures) c.write_tooltip.ensures) c.write_look.ensures) c.write-2.ensures)
    (ap (λ (m : PointMarks). node_names c.args.point m ++ label ++ codes "\"" ++ hover ++ look_of m ++ codes "];\n") c.marks-marks.ensures)
