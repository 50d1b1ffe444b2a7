use Rattle.text_pieces.proofs.sinks.Taking.{takes_as, takes_then}
use Rattle.flow_paths.specs.Pictures.{hop_marks}
use Rattle.flow_paths.specs.code.Doubted.{is_shown}
use Rattle.flow_views.proofs.texts.Walks.{walk_next}
use Rattle.flow_paths.proofs.path_picture.write_path_marks.Goals as goal

pub loop-hop-preserved : goal.loop-hop-preserved
loop-hop-preserved g c =
    takes_as _ _ _ _ (takes_then _ _ _ _ _ c.loop-hop.invariant c.write_hop_marks.ensures)
    (walk_next (hop_marks (is_shown c.args.shown)) c.args.hops.now c.loop-hop.hop-index _ c.loop-hop-test.true)
