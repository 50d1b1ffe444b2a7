use Rattle.std.proofs.Common.{◌≡◌, ◌<◌, ◌∙◌, List, length, fold, All, sym, ap, subst, arith}
use Rattle.flow_graph.specs.Edges.{edges_from}
use Rattle.flow_graph.specs.code.NumberLists.{contents, with_last}
use Rattle.flow_graph.specs.Paths.{target_of}
use Rattle.flow_graph.specs.declared.edge.Edge.{Edge}
use Rattle.flow_graph.specs.Points.{point_count}
use Rattle.flow_graph.proofs.edges.SourceLemmas.{targets_are_points, one_point_more}
use Rattle.doubt_origins.proofs.sources.sources.Goals as goal

pub put_source-requires : goal.put_source-requires
put_source-requires c =
    let below : c.loop-point.point < point_count c.args.graph.now = omega arith in
    let out : c.as_slice.result.now ≡ edges_from c.args.graph.now c.loop-point.point = c.as_slice.ensures ∙ c.in_ok-edges.ensures in
    subst (λ (es : List Edge). All (λ edge. target_of edge < length (contents c.loop-point.lists.items)) es) (sym out)
    (λ k d inside. omega
    (arith, targets_are_points c.args.graph.now c.points-count.ensures.sound c.loop-point.point below k d inside, c.loop-point.invariant.count))

pub loop-point-preserved : goal.loop-point-preserved
loop-point-preserved c =
    let below : c.loop-point.point < point_count c.args.graph.now = omega arith in
    let out : c.as_slice.result.now ≡ edges_from c.args.graph.now c.loop-point.point = c.as_slice.ensures ∙ c.in_ok-edges.ensures in
    one_point_more c.args.graph.now c.loop-point.point (contents c.loop-point.lists.items) (contents c.put_source.new.lists.items)
    c.points-count.ensures.sound below c.loop-point.invariant
    (c.in_ok-put_source.ensures ∙ ap
    (λ (es : List Edge). fold (λ known edge. with_last known (target_of edge) c.loop-point.point) (contents c.loop-point.lists.items) es) out)
