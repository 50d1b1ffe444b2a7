use Rattle.std.proofs.Common.{◌∙◌}
use Rattle.flow_graph.specs.Points.{point_count}
use Rattle.flow_paths.specs.code.Arounds.{remarks_in}
use Rattle.flow_paths.proofs.lists.Surrounding.{points_low}
use Rattle.flow_paths.proofs.arounds.arounds_by_point.Goals as goal

pub group-requires-clause-low : goal.group-requires-clause-low
group-requires-clause-low c =
    points_low (remarks_in c.args.arounds.now) c.deref.result.now (point_count c.args.graph.now) c.points-count.result
    (c.deref.ensures.value ∙ c.in_ok-points.ensures) c.points-count.ensures.count c.requires
