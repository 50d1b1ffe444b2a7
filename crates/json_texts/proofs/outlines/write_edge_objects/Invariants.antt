use Rattle.std.proofs.Common.{◌++◌, codes, map, take}
use Rattle.text_pieces.specs.Pieces.{Writes}
use Rattle.flow_views.specs.Json.{joined, point_edge}
use Rattle.json_texts.proofs.outlines.write_edge_objects.Given as goal

abbrev pub invariant-loop-place : goal.invariant-loop-place
invariant-loop-place g l =
    Writes g.K.Sink l.fn.out l.out
    (codes "[" ++ joined (codes ",") (map (point_edge l.fn.outline.graph.now) (take l.place l.edges)))
