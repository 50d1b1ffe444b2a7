use Rattle.std.proofs.Common.{◌≡◌, ◌+◌, ◌<◌, ◌≤◌, ℕ, length, flat_map, get_or}
use Rattle.std.specs.List.{range_with_len}
use Rattle.gen_kill.specs.code.Effects.{IsColumnEffect}
use Rattle.gen_kill.specs.code.Problems.{selected}
use Rattle.flow_graph.specs.Universes.{definition_at}
use Rattle.gen_kill.specs.declared.effect.Effect.{Effect}
use Rattle.gen_kill.proofs.effects.effects.Given as goal

abbrev pub invariant-loop-point : goal.invariant-loop-point
invariant-loop-point l = record {
  walks : l.walk ≡ record { program = l.fn.graph; point = l.point };
  numbered : l.number ≡ length l.fn.graph.variable_names + length (flat_map (definition_at l.fn.graph) (range_with_len 0 l.point));
  few : l.number ≤ length l.fn.graph.variable_names + l.point;
  so_many : length l.effects.items ≡ l.point;
  each : (k : ℕ) (d : Effect) → k < l.point → IsColumnEffect (selected l.fn.graph l.fn.analysis l.fn.columns) k (get_or l.effects.items k d);
}
