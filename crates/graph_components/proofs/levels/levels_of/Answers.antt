use Rattle.std.proofs.Common.{◌∙◌}
use Rattle.graph_components.proofs.walks.Within.{reversed_within}
use Rattle.graph_components.proofs.levels.levels_of.Goals as goal

pub target_lists-requires-2 : goal.target_lists-requires-2
target_lists-requires-2 c =
    reversed_within c.args.count c.args.arcs.now c.as_slice.result.now (c.as_slice.ensures.value ∙ c.in_ok-reversed.ensures) c.requires
