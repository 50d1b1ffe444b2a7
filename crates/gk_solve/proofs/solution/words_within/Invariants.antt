use Rattle.std.proofs.Common.{◌≡◌, ◌<◌, ◌+◌, ◌*◌, ◌&&◌, nat_le, nat_lt, ℕ, get_or, length}
use Rattle.bit_rows.specs.Words.{has_bit}
use Rattle.gk_solve.proofs.solution.words_within.Given as goal

abbrev pub invariant-loop-w : goal.invariant-loop-w
invariant-loop-w g l = record {
  count : length l.words ≡ g.row.W;
  done : (w k : ℕ) → w < l.w → k < 64
      → has_bit (get_or l.words w 0) k ≡ (nat_le l.lo (64 * (l.frame.first + w) + k) && nat_lt (64 * (l.frame.first + w) + k) l.hi);
}
