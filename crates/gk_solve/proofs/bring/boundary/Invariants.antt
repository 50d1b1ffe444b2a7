use Rattle.std.proofs.Common.{◌≡◌, ◌<◌, ℕ, get_or, length}
use Rattle.bit_rows.specs.Words.{has_bit}
use Rattle.gk_solve.specs.Tables.Groups.{group_of}
use Rattle.gk_solve.proofs.bring.boundary.Given as goal

abbrev pub invariant-loop-w : goal.invariant-loop-w
invariant-loop-w g l = record {
  count : length l.words ≡ g.row.W;
  done : (w k : ℕ) → w < l.w → k < 64 → has_bit (get_or l.words w 0) k ≡ ((group_of l.frame g.row.W).transfer w k).boundary;
}
