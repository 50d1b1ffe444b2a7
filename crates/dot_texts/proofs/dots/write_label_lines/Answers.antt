use Rattle.text_pieces.proofs.sinks.Taking.{takes_as, takes_then}
use Rattle.flow_views.specs.Dots.{label_line, label_title}
use Rattle.flow_views.proofs.texts.Walks.{walk_next}
use Rattle.dot_texts.proofs.dots.write_label_lines.Goals as goal

pub loop-label-preserved : goal.loop-label-preserved
loop-label-preserved g c = takes_as _ _ _ _ (takes_then _ _ _ _ _ c.loop-label.invariant c.write_label_line.ensures)
    (walk_next (λ label. label_line (label_title c.args.shown.now.found.graph.now c.args.point label)) c.args.labels.now c.loop-label.label-index _
    c.loop-label-test.true)
