use Rattle.text_pieces.proofs.sinks.Taking.{takes_as, takes_then}
use Rattle.block_dots.specs.BlockDots.{shown_edge}
use Rattle.flow_views.proofs.texts.Walks.{walk_next}
use Rattle.block_dots.proofs.edges.write_shown_edges.Goals as goal

pub loop-edge-preserved : goal.loop-edge-preserved
loop-edge-preserved g c = takes_as _ _ _ _ (takes_then _ _ _ _ _ c.loop-edge.invariant c.write_shown_edge.ensures)
    (walk_next (shown_edge c.args.shown.now.found.graph.now c.args.shown.now.view c.args.leader) c.args.edges.now c.loop-edge.edge-index _
    c.loop-edge-test.true)
