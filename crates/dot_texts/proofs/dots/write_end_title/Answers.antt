use Rattle.std.proofs.Common.{codes, ap, ◌∙◌}
use Rattle.flow_graph.specs.Points.{procedure_at}
use Rattle.text_pieces.proofs.sinks.Taking.{takes_as}
use Rattle.text_pieces.specs.Strings.{escaped}
use Rattle.flow_views.specs.Views.{procedure_name}
use Rattle.tac_program.specs.Programs.{Program}
use Rattle.text_pieces.proofs.sinks.Escapes.{shows_then}
use Rattle.dot_texts.proofs.dots.write_end_title.Goals as goal

pub returns : goal.returns
returns g c =
    let program : Program = c.args.shown.now.found.graph.now in
    shows_then (codes "end of ") (procedure_name program (procedure_at program c.args.point)) _ _ _ c.write.ensures
    (takes_as _ _ _ _ c.write_escaped.ensures (ap escaped (c.procedure_name.ensures ∙ ap (procedure_name program) c.scope.ensures.procedure)))
