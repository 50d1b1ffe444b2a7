use Rattle.std.proofs.Common.{◌+◌, arith, slice_index}
use Rattle.flow_paths.proofs.lists.Putting.{put_next}
use Rattle.flow_paths.proofs.unset_paths.paths_by_variable.Goals as goal

pub loop-variable-preserved : goal.loop-variable-preserved
loop-variable-preserved c = (
  put_next c.args.uses.now c.loop-variable.paths.items c.put_variable.new.paths.items c.args.by_variable.now.places.items
      (slice_index c.args.by_variable.now.starts.items 0) (slice_index c.args.by_variable.now.starts.items c.loop-variable.variable)
      (slice_index c.args.by_variable.now.starts.items (c.loop-variable.variable + 1))
      (c.requires.groups.rising 0 c.loop-variable.variable (omega arith) (omega (arith, c.loop-variable-test.true, c.variables-variable-end.ensures.count)))
      (c.requires.groups.rising c.loop-variable.variable (c.loop-variable.variable + 1) (omega arith)
      (omega (arith, c.loop-variable-test.true, c.variables-variable-end.ensures.count)))
      c.loop-variable.invariant.0 c.in_ok-put_variable.ensures.put,
  c.in_ok-put_variable.ensures.witnessed c.loop-variable.invariant.1,
)
