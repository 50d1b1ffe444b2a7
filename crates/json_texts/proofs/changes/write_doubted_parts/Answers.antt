use Rattle.std.proofs.Common.{Bool, ◌++◌, codes, map, ap}
use Rattle.text_pieces.proofs.sinks.Taking.{takes_as, takes_then}
use Rattle.flow_graph.specs.Edges.{edges_from}
use Rattle.flow_views.specs.Json.{array, point_edge}
use Rattle.tac_program.specs.Programs.{Program}
use Rattle.json_texts.specs.Changes.{leads_to_field}
use Rattle.json_texts.specs.code.Outlines.{point_front}
use Rattle.json_texts.proofs.changes.write_doubted_parts.Goals as goal

pub returns : goal.returns
returns g c =
    let program : Program = c.args.shown.now.found.graph.now in
    takes_as _ _ _ _
    (takes_then _ _ _ _ _ (takes_then _ _ _ _ _ (takes_then _ _ _ _ _ c.write_point_front.ensures c.write_leads_to.ensures) c.write.ensures)
    c.write_edges_out.ensures)
    (ap (λ (doubtful : Bool). point_front program doubtful c.args.point ++ leads_to_field c.args.origin
    ++ codes ",\"edges\":" ++ array (map (point_edge program) (edges_from program c.args.point))) c.is_doubtful.ensures)
