use Rattle.std.proofs.Common.{◌≡◌, ℕ, ◌≤◌, ◌<◌, true}
use Rattle.bit_rows.specs.RowSet.{contains}
use Rattle.bit_rows.specs.RowTable.{set_at}
use Rattle.slice_board_tests.proofs.bench.covers.Given as goal

abbrev pub invariant-loop-point : goal.invariant-loop-point
invariant-loop-point l = (point bit : ℕ) → point < l.point → l.lo ≤ bit → bit < l.hi → contains (set_at l.wanted point) bit ≡ true
    → contains (set_at l.mine point) bit ≡ true
