use Rattle.std.proofs.Common.{◌≡◌, ◌-◌, ◌<◌, Some, length, slice_get}
use Rattle.flow_queries.specs.code.Cuts.{EndTo}
use Rattle.flow_queries.proofs.queried_job.ends.Given as goal

abbrev pub invariant-loop-j : goal.invariant-loop-j
invariant-loop-j l = record {
  first : 0 < l.j;
  before : slice_get l.queried.order (l.j - 1) ≡ Some l.before;
  ends : EndTo l.queried.order (length l.queried.order) l.j l.ends.items;
}
