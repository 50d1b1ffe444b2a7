-- The expressions before the next one are told.
use Rattle.std.proofs.Common.{◌≡◌, ℕ, ◌<◌, length}
use Rattle.std.specs.Prelude.{Some, slice_get}
use Rattle.flow_graph.specs.Universes.{expressions}
use Rattle.flow_graph.specs.declared.expression.Expr.{Expr}
use Rattle.flow_records.specs.Parts.{expression_part}
use Rattle.flow_records.proofs.parts.put_expressions.Given as goal

abbrev pub invariant-loop-bit : goal.invariant-loop-bit
invariant-loop-bit l = record {
  count : length l.expressions ≡ length l.initial.expressions;
  each : (n : ℕ) (item : Expr) → n < l.bit → slice_get (expressions l.graph) n ≡ Some item → slice_get l.expressions n ≡ Some (expression_part item);
}
