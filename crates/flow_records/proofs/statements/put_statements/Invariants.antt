-- What stands at the points before the next one is told.
use Rattle.std.proofs.Common.{◌≡◌, ℕ, ◌<◌, length}
use Rattle.std.specs.Prelude.{Some, slice_get}
use Rattle.flow_records.specs.Statements.{statement_part}
use Rattle.flow_records.proofs.statements.put_statements.Given as goal

abbrev pub invariant-loop-point : goal.invariant-loop-point
invariant-loop-point l = record {
  count : length l.statements ≡ length l.initial.statements;
  each : (n : ℕ) → n < l.point → slice_get l.statements n ≡ Some (statement_part l.graph n);
}
