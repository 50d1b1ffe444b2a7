use Rattle.std.proofs.Common.{◌<◌, ℕ, get_or}
use Rattle.flow_graph.specs.declared.edge.Edge.TheVariants.{Step}
use Rattle.gk_solve.specs.Tables.Groups.{IsSummarySettled, SummarySpreads, group_of}
use Rattle.gk_solve.proofs.group.visit_steps.Given as goal

abbrev pub invariant-loop-to : goal.invariant-loop-to
invariant-loop-to g l = record {
  spreads : SummarySpreads (group_of l.frame g.row.W) l.frame.paths.now l.fn.table l.fn.dirty l.table l.dirty;
  done : (j d : ℕ) → j < l.to-index → IsSummarySettled (group_of l.frame g.row.W) l.frame.paths.now l.table l.dirty (Step l.at (get_or l.steps j d));
}
