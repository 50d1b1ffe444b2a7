use Rattle.std.proofs.Common.{◌∙◌, ◌++◌, ◌∷◌, [], ap}
use Rattle.flow_paths.proofs.lists.Surrounding.{points_put}
use Rattle.flow_paths.proofs.arounds.points_of.Goals as goal

pub loop-around-preserved : goal.loop-around-preserved
loop-around-preserved c =
    c.in_ok-push.ensures.items
    ∙ ap (λ ns. ns ++ c.around-item.result.placed.point ∷ []) c.loop-around.invariant
    ∙ points_put c.args.arounds.now c.loop-around.around-index c.around-item.result c.loop-around-test.true c.around-item.is
