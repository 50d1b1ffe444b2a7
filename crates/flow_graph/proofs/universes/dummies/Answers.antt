use Rattle.std.proofs.Common.{◌∷◌, [], ◌++◌, None, ap, ◌∙◌, sym}
use Rattle.flow_graph.proofs.lists.Ranges.{map-range_more}
use Rattle.flow_graph.proofs.universes.dummies.Goals as goal

pub loop-variable-preserved : goal.loop-variable-preserved
loop-variable-preserved c =
    c.in_ok-push.ensures.items
    ∙ ap (λ ds. ds ++ (c.loop-variable.variable, None) ∷ []) c.loop-variable.invariant
    ∙ sym (map-range_more (λ x. (x, None)) c.loop-variable.variable)
