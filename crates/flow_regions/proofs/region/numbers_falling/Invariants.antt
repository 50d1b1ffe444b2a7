use Rattle.std.proofs.Common.{◌≡◌, ◌+◌, ◌<◌, ℕ, length, slice_index}
use Rattle.flow_regions.proofs.region.numbers_falling.Given as goal

abbrev pub invariant-loop-number : goal.invariant-loop-number
invariant-loop-number l = record {
  count : length l.numbers.items ≡ l.number;
  each : (j : ℕ) → j < l.number → slice_index l.numbers.items j + j + 1 ≡ l.count;
}
