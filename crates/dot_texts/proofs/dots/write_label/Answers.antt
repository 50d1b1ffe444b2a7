use Rattle.std.proofs.Common.{List, ℕ, ◌++◌, codes, flat_map, not, ap, append_assoc}
use Rattle.flow_reports.specs.Reports.{Knowledge, remark_text, remarks_at}
use Rattle.text_pieces.proofs.sinks.Taking.{takes_as, takes_then}
use Rattle.tac_program.specs.Programs.{Program}
use Rattle.flow_views.specs.code.ViewProgram.{known_of}
use Rattle.flow_views.specs.Dots.{facts_in_lines, label_line, label_title, text_if, title}
use Rattle.text_pieces.specs.Strings.{escaped}
use Rattle.flow_views.specs.Views.{labels_at}
use Rattle.dot_texts.proofs.dots.write_label.Goals as goal

pub returns : goal.returns
returns g c =
    let program : Program = c.args.shown.now.found.graph.now in
    let known : Knowledge = known_of c.args.shown.now in
    let labels : List ℕ = flat_map (λ label. label_line (label_title program c.args.point label)) (labels_at program c.args.point) in
    let remarks : List ℕ = flat_map (λ remark. label_line (remark_text program remark)) (remarks_at program known c.args.point) in
    let facts : List ℕ = text_if (not c.args.shown.now.view.look.hovers) (facts_in_lines program known c.args.shown.now.view c.args.point) in
    takes_as _ _ _ _
    (takes_then _ _ _ _ _ (takes_then _ _ _ _ _ (takes_then _ _ _ _ _ (takes_then _ _ _ _ _
    (takes_as _ _ _ _ c.write_label_lines.ensures (ap (flat_map (λ label. label_line (label_title program c.args.point label))) c.labels.ensures))
    c.write_title.ensures) c.write.ensures)
    c.write_remarks_at.ensures) c.write_label_facts.ensures)
    (ap (λ t. (t ++ remarks) ++ facts) (append_assoc labels (escaped (title program c.args.point)) (codes "\\l")))
