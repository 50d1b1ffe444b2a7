use Rattle.std.proofs.Common.{◌∙◌}
use Rattle.flow_graph.specs.Points.{point_count}
use Rattle.flow_paths.specs.code.UnsetPaths.{uses_in}
use Rattle.flow_paths.proofs.lists.Placed.{points_below}
use Rattle.flow_paths.proofs.unset_paths.paths_by_point.Goals as goal

pub group-requires-clause-low : goal.group-requires-clause-low
group-requires-clause-low c =
    points_below (uses_in c.args.paths.now) c.deref.result.now (point_count c.args.graph.now) c.points-count.result
    (c.deref.ensures.value ∙ c.in_ok-points.ensures) c.points-count.ensures.count c.requires.points
