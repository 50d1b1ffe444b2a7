use Rattle.flow_regions.specs.code.Ways.{point_in}
use Rattle.busy_bounds.proofs.sets_left.Leaving.{points_more}
use Rattle.busy_bounds.proofs.finding.point_sets.Goals as goal

pub loop-number-preserved : goal.loop-number-preserved
loop-number-preserved c =
    points_more c.args.busy.graph.now c.loop-number.items.items c.point_set.new.items.items c.loop-number.points.items c.set_bound.new.bounds.items
    (point_in c.args.paths.ways.now c.loop-number.number) c.in_ok-set.set c.in_ok-set.ensures.grows c.loop-number.invariant c.in_ok-set.ensures.set
    c.set_bound.ensures.count c.set_bound.ensures.here c.set_bound.ensures.others
