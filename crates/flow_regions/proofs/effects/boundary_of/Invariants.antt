use Rattle.std.proofs.Common.{◌≡◌, ◌<◌, ◌≤◌, ℕ, slice_index, false}
use Rattle.bit_rows.specs.Words.{has_bit}
use Rattle.gen_kill.specs.Selections.{column_boundary}
use Rattle.flow_regions.proofs.effects.boundary_of.Given as goal

abbrev pub invariant-loop-number : goal.invariant-loop-number
invariant-loop-number l = record {
  told : (k : ℕ) → k < l.number → has_bit l.word k ≡ column_boundary l.problem (slice_index l.columns k);
  blank : (k : ℕ) → k < 64 → l.number ≤ k → has_bit l.word k ≡ false;
}
