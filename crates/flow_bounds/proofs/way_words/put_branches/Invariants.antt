use Rattle.std.proofs.Common.{◌≡◌, ℕ, length, slice_index}
use Rattle.flow_bounds.specs.code.Exact.{IsHungWord}
use Rattle.flow_bounds.proofs.way_words.put_branches.Given as goal

abbrev pub invariant-loop-number : goal.invariant-loop-number
invariant-loop-number l = record {
  count : length l.hung ≡ length l.fn.hung;
  each : (p : ℕ) → IsHungWord l.frame p (slice_index l.hung p);
}
