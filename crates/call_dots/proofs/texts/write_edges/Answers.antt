use Rattle.text_pieces.proofs.sinks.Taking.{takes_as, takes_then}
use Rattle.flow_views.proofs.texts.Walks.{walk_next}
use Rattle.call_dots.specs.CallDots.{edge_line}
use Rattle.call_dots.specs.code.Tables.{recursion_of}
use Rattle.call_dots.proofs.texts.write_edges.Goals as goal

pub loop-edge-preserved : goal.loop-edge-preserved
loop-edge-preserved g c = takes_as _ _ _ _ (takes_then _ _ _ _ _ c.loop-edge.invariant c.write_edge.ensures)
    (walk_next (edge_line c.args.shown.now.found.graph.now (recursion_of c.args.shown.now)) c.args.edges.now c.loop-edge.edge-index _ c.loop-edge-test.true)
