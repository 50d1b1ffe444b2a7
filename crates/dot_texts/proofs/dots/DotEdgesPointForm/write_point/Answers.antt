use Rattle.std.proofs.Common.{flat_map, ap}
use Rattle.text_pieces.proofs.sinks.Taking.{takes_as, takes_then}
use Rattle.tac_program.specs.Programs.{Program}
use Rattle.flow_views.specs.Dots.{shown_edge}
use Rattle.flow_views.proofs.facts.Tables.{all_ends_in}
use Rattle.dot_texts.proofs.dots.DotEdgesPointForm.write_point.Goals as goal

pub write_shown_edges-requires-clause-edges : goal.write_shown_edges-requires-clause-edges
write_shown_edges-requires-clause-edges g c =
    all_ends_in c.args.shown.now.found.graph.now c.args.point c.edges.result.now c.requires.shown.found.sound c.requires.point c.edges.ensures

pub returns : goal.returns
returns g c =
    let program : Program = c.args.shown.now.found.graph.now in
    takes_then _ _ _ _ _ (takes_as _ _ _ _
    c.write_shown_edges.ensures (ap (flat_map (shown_edge program c.args.shown.now.view)) c.edges.ensures))
    c.write_passed_call.ensures
