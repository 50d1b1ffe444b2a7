use Rattle.text_pieces.proofs.sinks.Taking.{takes_as, takes_then}
use Rattle.flow_paths.specs.Doubts.{doubt_line}
use Rattle.flow_views.proofs.texts.Walks.{walk_next}
use Rattle.flow_paths.proofs.json_paths.write_doubts.Goals as goal

pub loop-doubt-preserved : goal.loop-doubt-preserved
loop-doubt-preserved g c =
    takes_as _ _ _ _ (takes_then _ _ _ _ _ c.loop-doubt.invariant c.write_doubt.ensures)
    (walk_next (doubt_line c.args.graph.now) c.args.doubts.now c.loop-doubt.doubt-index _ c.loop-doubt-test.true)
