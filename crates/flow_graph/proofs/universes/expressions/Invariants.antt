use Rattle.std.proofs.Common.{◌≡◌, ◌<◌, ◌≤◌, ℕ, [], length, flat_map, fold, get_or, Option}
use Rattle.std.specs.List.{range_with_len}
use Rattle.flow_graph.specs.code.Evaluated.{IsNumberOf}
use Rattle.flow_graph.specs.Universes.{noted, some_expression, expression_at}
use Rattle.flow_graph.proofs.universes.expressions.Given as goal

abbrev pub invariant-loop-point : goal.invariant-loop-point
invariant-loop-point l = record {
  noted : l.expressions.keys ≡ fold noted [] (flat_map (λ point. some_expression (expression_at l.fn.points point)) (range_with_len 0 l.point));
  few : length l.expressions.keys ≤ l.point;
  so_many : length l.evaluated.items ≡ l.point;
  each : (k : ℕ) (d : Option ℕ) → k < l.point → IsNumberOf l.expressions.keys (expression_at l.fn.points k) (get_or l.evaluated.items k d);
}
