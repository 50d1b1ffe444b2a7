use Rattle.std.proofs.Common.{codes, arith}
use Rattle.std.proofs.lemmas.List.{get_or_default}
use Rattle.text_pieces.proofs.sinks.Taking.{takes_as, takes_then}
use Rattle.flow_views.specs.Json.{point_edge}
use Rattle.flow_views.proofs.texts.Rows.{joined_all, joined_behind}
use Rattle.json_texts.proofs.outlines.write_edge_objects.Goals as goal

pub loop-place-preserved : goal.loop-place-preserved
loop-place-preserved g c =
    takes_as _ _ _ _
    (takes_then _ _ _ _ _ (takes_then _ _ _ _ _ c.loop-place.invariant c.write_if.ensures) c.write_edge_object.ensures)
    (joined_behind (codes "[") (codes ",") (point_edge c.args.outline.now.graph.now) c.args.edges.now c.loop-place.place _ c.loop-place-test.true
    (get_or_default c.args.edges.now c.loop-place.place _ _ c.loop-place-test.true))

pub returns : goal.returns
returns g c =
    takes_as _ _ _ _ (takes_then _ _ _ _ _ c.loop-place.invariant c.write-2.ensures)
    (joined_all (codes ",") (point_edge c.args.outline.now.graph.now) c.args.edges.now c.loop-place.place (omega (arith, c.loop-place-test.false)))
