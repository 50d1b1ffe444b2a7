use Rattle.std.proofs.Common.{◌≡◌, replicate}
use Rattle.bit_rows.specs.RowSet.{empty_set}
use Rattle.bit_rows.proofs.all_rows.Rows.blank.Given as goal

abbrev pub invariant-loop : goal.invariant-loop
invariant-loop l = l.rows.items ≡ replicate l.counter (empty_set l.lo l.hi)
