use Rattle.std.proofs.Common.{◌≡◌, ◌<◌, ◌≤◌, ◌||◌, ◌&&◌, ℕ, length, get_or}
use Rattle.bit_rows.specs.Words.{has_bit}
use Rattle.gk_solve.proofs.lanes.new_or_preserved.Given as goal

abbrev pub invariant-loop-w : goal.invariant-loop-w
invariant-loop-w g l = record {
  count : length l.all ≡ g.row.W;
  done : (j k : ℕ) → j < l.w
      → has_bit (get_or l.all j 0) k ≡ (has_bit (get_or l.fn.new j 0) k || (has_bit (get_or l.before j 0) k && has_bit (get_or l.preserved j 0) k));
  rest : (j : ℕ) → l.w ≤ j → get_or l.all j 0 ≡ get_or l.fn.new j 0;
}
