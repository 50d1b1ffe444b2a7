-- The flags so far are told.
use Rattle.std.proofs.Common.{◌≡◌, ℕ, ◌+◌, ◌<◌, length, false}
use Rattle.std.specs.Prelude.{slice_index, slice_index_or, if◌then◌else◌}
use Rattle.flow_kept.proofs.table.put_flags.Given as goal

abbrev pub invariant-loop-row : goal.invariant-loop-row
invariant-loop-row l = record {
  count : length l.flags ≡ length l.initial.flags;
  told : (n : ℕ) → n < l.row → slice_index l.flags n ≡ (if slice_index_or l.values (l.from + n) false then 1 else 0);
}
