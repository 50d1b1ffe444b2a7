use Rattle.std.proofs.Common.{◌++◌, codes, map, take}
use Rattle.text_pieces.specs.Pieces.{Writes}
use Rattle.flow_views.specs.Json.{edge_object, joined}
use Rattle.flow_paths.proofs.set_fields.write_edges.Given as goal

abbrev pub invariant-loop-place : goal.invariant-loop-place
invariant-loop-place g l =
    Writes g.K.Sink l.fn.out l.out
    (codes "[" ++ joined (codes ",") (map edge_object (take l.place l.edges)))
