use Rattle.std.proofs.Common.{flat_map, take}
use Rattle.text_pieces.specs.Pieces.{Writes}
use Rattle.call_dots.specs.CallDots.{edge_line}
use Rattle.call_dots.specs.code.Tables.{recursion_of}
use Rattle.call_dots.proofs.texts.write_edges.Given as goal

abbrev pub invariant-loop-edge : goal.invariant-loop-edge
invariant-loop-edge g l =
    Writes g.K.Sink l.fn.out l.out (flat_map (edge_line l.fn.shown.found.graph.now (recursion_of l.fn.shown)) (take l.edge-index l.edges))
