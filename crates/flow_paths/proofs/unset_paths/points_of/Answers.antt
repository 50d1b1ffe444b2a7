use Rattle.std.proofs.Common.{◌∙◌, ◌++◌, ◌∷◌, [], ap}
use Rattle.flow_paths.proofs.lists.Placed.{points_more}
use Rattle.flow_paths.proofs.unset_paths.points_of.Goals as goal

pub loop-path-preserved : goal.loop-path-preserved
loop-path-preserved c =
    c.in_ok-push.ensures.items
    ∙ ap (λ ns. ns ++ c.path-item.result.point ∷ []) c.loop-path.invariant
    ∙ points_more c.args.paths.now c.loop-path.path-index c.path-item.result c.loop-path-test.true c.path-item.is
