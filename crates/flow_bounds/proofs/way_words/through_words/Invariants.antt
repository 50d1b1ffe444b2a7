use Rattle.std.proofs.Common.{◌≡◌, ◌<◌, ℕ, length, slice_index}
use Rattle.flow_bounds.specs.code.Exact.{IsThroughWord}
use Rattle.flow_bounds.proofs.way_words.through_words.Given as goal

abbrev pub invariant-loop-procedure : goal.invariant-loop-procedure
invariant-loop-procedure l = record {
  count : length l.through.items ≡ l.procedure;
  each : (p : ℕ) → p < l.procedure → IsThroughWord l.frame p (slice_index l.through.items p);
}
