use Rattle.std.proofs.Common.{◌≡◌, ◌<◌, ℕ, false, length, not, slice_index_or}
use Rattle.flow_why.proofs.scope.skipped_for.Given as goal

abbrev pub invariant-loop-number : goal.invariant-loop-number
invariant-loop-number l = record {
  count : length l.skipped.items ≡ l.number;
  each : (p : ℕ) → p < l.number → slice_index_or l.skipped.items p false ≡ not (slice_index_or l.leads.items p false);
}
