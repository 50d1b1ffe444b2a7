use Rattle.std.proofs.Common.{◌∷◌, [], ◌++◌, ap, ap₂, sym, ◌∙◌}
use Rattle.std.proofs.lemmas.List.{map-append}
use Rattle.flow_graph.specs.Edges.{edges_from}
use Rattle.flow_graph.proofs.lists.Ranges.{map-range_more}
use Rattle.flow_views.specs.code.ViewProgram.{contents}
use Rattle.flow_views.proofs.view_program.successors.Goals as goal

pub loop-point-preserved : goal.loop-point-preserved
loop-point-preserved c =
    ap contents c.in_ok-push.ensures.items
    ∙ map-append (λ list. list.items) c.loop-point.lists.items (_ ∷ [])
    ∙ ap₂ (λ before edges. before ++ edges ∷ []) c.loop-point.invariant c.in_ok-succ.ensures
    ∙ sym (map-range_more (edges_from c.args.graph.now) c.loop-point.point)
