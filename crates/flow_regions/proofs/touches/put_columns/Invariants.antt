use Rattle.std.proofs.Common.{◌≡◌, ◌<◌, ℕ, length, slice_index}
use Rattle.flow_regions.specs.code.Lists.{ArePairs, IsPair}
use Rattle.flow_regions.specs.code.Touches.{KeepsPairs}
use Rattle.flow_regions.proofs.touches.put_columns.Given as goal

abbrev pub invariant-loop-column : goal.invariant-loop-column
invariant-loop-column l = record {
  same : length l.pairs.values.items ≡ length l.pairs.keys.items;
  pairs : (limit : ℕ) → ArePairs l.count limit l.fn.pairs.keys.items l.fn.pairs.values.items → l.point < limit
      → ArePairs l.count limit l.pairs.keys.items l.pairs.values.items;
  here : (j : ℕ) → j < l.column-index → slice_index l.columns j < l.count
      → IsPair l.pairs.keys.items l.pairs.values.items (length l.pairs.keys.items) (slice_index l.columns j) l.point;
  kept : KeepsPairs l.fn.pairs.keys.items l.fn.pairs.values.items l.pairs.keys.items l.pairs.values.items;
}
