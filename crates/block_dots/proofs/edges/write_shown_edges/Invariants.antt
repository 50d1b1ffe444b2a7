use Rattle.std.proofs.Common.{flat_map, take}
use Rattle.text_pieces.specs.Pieces.{Writes}
use Rattle.block_dots.specs.BlockDots.{shown_edge}
use Rattle.block_dots.proofs.edges.write_shown_edges.Given as goal

abbrev pub invariant-loop-edge : goal.invariant-loop-edge
invariant-loop-edge g l =
    Writes g.K.Sink l.fn.out l.out
    (flat_map (shown_edge l.fn.shown.found.graph.now l.fn.shown.view l.fn.leader) (take l.edge-index l.edges))
