use Rattle.std.proofs.Common.{◌≡◌, ℕ, ◌≤◌, ◌<◌, true}
use Rattle.bit_rows.specs.RowSet.{contains}
use Rattle.slice_board_tests.proofs.bench.covers_row.Given as goal

abbrev pub invariant-loop-bit : goal.invariant-loop-bit
invariant-loop-bit l = (bit : ℕ) → l.lo ≤ bit → bit < l.bit → contains l.wanted bit ≡ true → contains l.mine bit ≡ true
