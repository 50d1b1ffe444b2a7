use Rattle.std.proofs.Common.{◌++◌, codes, decimal, ap, sym, ◌∙◌}
use Rattle.flow_graph.specs.Paths.{source_of}
use Rattle.tac_program.specs.Programs.{Program}
use Rattle.text_pieces.proofs.sinks.Taking.{takes_as}
use Rattle.flow_views.specs.Json.{point_edge, when_field}
use Rattle.flow_views.specs.Views.{outcome}
use Rattle.json_texts.proofs.outlines.write_edge_object.Goals as goal

pub returns-in-Step : goal.returns-in-Step
returns-in-Step g c =
    let program : Program = c.args.outline.now.graph.now in
    takes_as _ _ _ _ c.write_step_object.ensures
    (ap (λ source. codes "{\"kind\":\"step\",\"to\":" ++ decimal c.in-Step.to ++ when_field (outcome program source c.in-Step.to) ++ codes "}")
    (sym c.requires.edge ∙ ap source_of c.in-Step.is)
    ∙ sym (ap (point_edge program) c.in-Step.is))

pub returns-in-Call : goal.returns-in-Call
returns-in-Call g c = takes_as _ _ _ _ c.write_site.ensures (sym (ap (point_edge c.args.outline.now.graph.now) c.in-Call.is))

pub returns-in-Ret : goal.returns-in-Ret
returns-in-Ret g c = takes_as _ _ _ _ c.write_site-in-Ret.ensures (sym (ap (point_edge c.args.outline.now.graph.now) c.in-Ret.is))
