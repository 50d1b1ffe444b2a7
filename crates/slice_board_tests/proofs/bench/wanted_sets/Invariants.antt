use Rattle.std.proofs.Common.{◌≡◌}
use Rattle.slice_board_tests.proofs.bench.wanted_sets.Given as goal

abbrev pub invariant-loop-point : goal.invariant-loop-point
invariant-loop-point l = record { low : l.rows.lo ≡ 0; high : l.rows.hi ≡ l.bits }
