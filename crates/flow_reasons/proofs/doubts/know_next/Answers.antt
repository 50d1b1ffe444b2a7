use Rattle.std.proofs.Common.{◌≡◌, ◌<◌, ◌∙◌, All, List, length, sym, subst, arith}
use Rattle.flow_graph.specs.Edges.{edges_from}
use Rattle.flow_graph.specs.Paths.{target_of}
use Rattle.flow_graph.specs.declared.edge.Edge.{Edge}
use Rattle.flow_graph.proofs.edges.SourceLemmas.{targets_are_points}
use Rattle.flow_reasons.proofs.doubts.know_next.Goals as goal

pub know_targets-requires : goal.know_targets-requires
know_targets-requires c =
    let program = c.args.graph.now in
    let out : c.as_slice.result.now ≡ edges_from program c.args.point = c.as_slice.ensures ∙ c.in_ok-edges.ensures in
    subst (λ (es : List Edge). All (λ edge. target_of edge < length c.args.known.now.items) es) (sym out)
    (λ k d inside. omega (arith, c.requires.known, targets_are_points program c.points.ensures.sound c.args.point c.requires.point k d inside))
