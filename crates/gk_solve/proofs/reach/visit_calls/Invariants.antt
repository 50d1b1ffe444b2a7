use Rattle.std.proofs.Common.{◌<◌, ℕ, get_or}
use Rattle.flow_links.specs.Shapes.{directed_shape}
use Rattle.gk_solve.specs.Tables.Flags.{ReachSpreads, IsCallSettled}
use Rattle.flow_links.specs.declared.link.CallLink.{CallLink}
use Rattle.gk_solve.proofs.reach.visit_calls.Given as goal

abbrev pub invariant-loop-call : goal.invariant-loop-call
invariant-loop-call l = record {
  spreads : ReachSpreads (directed_shape l.links) l.links.backward l.fn.flags l.fn.dirty l.flags l.dirty;
  done : (j : ℕ) (d : CallLink) → j < l.call-index
      → IsCallSettled (directed_shape l.links) l.links.backward l.at l.flags l.dirty (get_or l.calls j d);
}
