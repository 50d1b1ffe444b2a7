use Rattle.std.proofs.Common.{◌<◌, ℕ}
use Rattle.flow_links.specs.Shapes.{directed_shape}
use Rattle.gk_solve.specs.Tables.Flags.{IsFlagged, ReachSpreads}
use Rattle.gk_solve.proofs.reach.grow_entries.Given as goal

abbrev pub invariant-loop-procedure : goal.invariant-loop-procedure
invariant-loop-procedure l = record {
  spreads : ReachSpreads (directed_shape l.links) l.links.backward l.fn.flags l.fn.dirty l.flags l.dirty;
  entries : (p : ℕ) → p < l.procedure → IsFlagged l.flags ((directed_shape l.links).entry p);
}
