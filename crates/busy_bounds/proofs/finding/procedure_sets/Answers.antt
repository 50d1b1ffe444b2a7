use Rattle.flow_regions.specs.code.Ways.{procedure_in}
use Rattle.busy_bounds.proofs.sets_left.Leaving.{points_grown, procedures_more}
use Rattle.busy_bounds.proofs.finding.procedure_sets.Goals as goal

pub loop-number-preserved : goal.loop-number-preserved
loop-number-preserved c =
    let inv = c.loop-number.invariant in
    record {
      points = points_grown c.args._graph.now c.loop-number.items.items c.procedure_set.new.items.items c.args.points.now c.in_ok-set.ensures.grows inv.points;
      procedures = procedures_more c.args._graph.now c.loop-number.items.items c.procedure_set.new.items.items c.loop-number.procedures.items
          c.set_bound.new.bounds.items (procedure_in c.args.paths.tree.now c.loop-number.number) c.in_ok-set.set c.in_ok-set.ensures.grows inv.procedures
          c.in_ok-set.ensures.set c.set_bound.ensures.count c.set_bound.ensures.here c.set_bound.ensures.others;
    }
