use Rattle.std.proofs.Common.{flat_map, take}
use Rattle.text_pieces.specs.Pieces.{Writes}
use Rattle.flow_views.specs.Dots.{label_line, label_title}
use Rattle.dot_texts.proofs.dots.write_label_lines.Given as goal

abbrev pub invariant-loop-label : goal.invariant-loop-label
invariant-loop-label g l =
    Writes g.K.Sink l.fn.out l.out
    (flat_map (λ label. label_line (label_title l.fn.shown.found.graph.now l.fn.point label)) (take l.label-index l.labels))
