use Rattle.std.proofs.Common.{codes, ap}
use Rattle.text_pieces.proofs.sinks.Taking.{takes_as, takes_then}
use Rattle.text_pieces.proofs.sinks.Escapes.{shows_then}
use Rattle.text_pieces.specs.Strings.{escaped}
use Rattle.flow_views.specs.Views.{label_name}
use Rattle.dot_texts.proofs.dots.write_label_line.Goals as goal

pub returns : goal.returns
returns g c =
    takes_then _ _ _ _ _
    (shows_then (label_name c.args.shown.now.found.graph.now c.args.point c.args.label) (codes ":") _ _ _
    (takes_as _ _ _ _ c.write_escaped.ensures (ap escaped c.label_name.ensures)) c.write.ensures)
    c.write-2.ensures
