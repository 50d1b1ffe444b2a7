use Rattle.std.proofs.Common.{◌≡◌, ◌<◌, ℕ, length, get_or}
use Rattle.gen_kill.proofs.columns.Columns.chosen.Given as goal

abbrev pub invariant-loop-column : goal.invariant-loop-column
invariant-loop-column l = record {
  so_many : length l.columns.items ≡ l.fn.count;
  each : (k : ℕ) → k < l.column → get_or l.columns.items (get_or l.bits.items k 0) 0 ≡ k;
}
