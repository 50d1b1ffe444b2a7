use Rattle.std.proofs.Common.{◌≡◌, ◌++◌, flat_map}
use Rattle.std.specs.List.{range_with_len}
use Rattle.flow_graph.specs.Universes.{dummies, definition_at}
use Rattle.flow_graph.proofs.universes.definitions.Given as goal

abbrev pub invariant-loop-point : goal.invariant-loop-point
invariant-loop-point l = l.definitions.items ≡ dummies l.fn.points ++ flat_map (definition_at l.fn.points) (range_with_len 0 l.point)
