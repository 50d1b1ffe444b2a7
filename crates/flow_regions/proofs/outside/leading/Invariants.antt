use Rattle.std.proofs.Common.{◌≡◌, ◌<◌, ◌≤◌, ℕ, true, false, length, slice_index, slice_index_or}
use Rattle.flow_regions.proofs.outside.leading.Given as goal

abbrev pub invariant-loop-rank : goal.invariant-loop-rank
invariant-loop-rank l = record {
  count : length l.leads.items ≡ l.rank-index;
  each : (p : ℕ) → p < l.rank-index → l.lowest ≤ slice_index l.ranks p → slice_index_or l.leads.items p false ≡ true;
  back : (p : ℕ) → p < l.rank-index → slice_index_or l.leads.items p false ≡ true → l.lowest ≤ slice_index l.ranks p;
}
