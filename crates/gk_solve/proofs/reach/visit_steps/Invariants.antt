use Rattle.std.proofs.Common.{◌<◌, ℕ, get_or}
use Rattle.flow_links.specs.Shapes.{directed_shape}
use Rattle.gk_solve.specs.Tables.Flags.{IsFlagged, ReachSpreads}
use Rattle.gk_solve.proofs.reach.visit_steps.Given as goal

abbrev pub invariant-loop-to : goal.invariant-loop-to
invariant-loop-to l = record {
  spreads : ReachSpreads (directed_shape l.links) l.links.backward l.fn.flags l.fn.dirty l.flags l.dirty;
  done : (j : ℕ) → j < l.to-index → IsFlagged l.flags (get_or l.steps j 0);
}
