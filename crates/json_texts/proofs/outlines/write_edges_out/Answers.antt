use Rattle.std.proofs.Common.{List, map, ap}
use Rattle.text_pieces.proofs.sinks.Taking.{takes_as}
use Rattle.flow_graph.specs.declared.edge.Edge.{Edge}
use Rattle.flow_views.specs.Json.{array, point_edge}
use Rattle.json_texts.proofs.told.Sources.{all_from}
use Rattle.json_texts.proofs.outlines.write_edges_out.Goals as goal

pub write_edge_objects-requires-clause-edges : goal.write_edge_objects-requires-clause-edges
write_edge_objects-requires-clause-edges g c =
    all_from c.args.outline.now.graph.now c.args.outline.now.point c.args.outline.now.edges.now c.points.ensures.sound c.requires.outline.point
    c.requires.outline.edges

pub returns : goal.returns
returns g c =
    takes_as _ _ _ _ c.write_edge_objects.ensures
    (ap (λ (es : List Edge). array (map (point_edge c.args.outline.now.graph.now) es)) c.requires.outline.edges)
