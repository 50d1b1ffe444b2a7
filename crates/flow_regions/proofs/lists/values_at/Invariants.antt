use Rattle.std.proofs.Common.{◌≡◌, ◌<◌, ℕ, length, slice_index}
use Rattle.flow_regions.proofs.lists.values_at.Given as goal

abbrev pub invariant-loop-place : goal.invariant-loop-place
invariant-loop-place l = record {
  count : length l.listed.items ≡ l.place-index;
  each : (j : ℕ) → j < l.place-index → slice_index l.listed.items j ≡ slice_index l.values (slice_index l.places j);
}
