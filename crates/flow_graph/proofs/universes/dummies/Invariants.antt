use Rattle.std.proofs.Common.{◌≡◌, None, map}
use Rattle.std.specs.List.{range_with_len}
use Rattle.flow_graph.proofs.universes.dummies.Given as goal

abbrev pub invariant-loop-variable : goal.invariant-loop-variable
invariant-loop-variable l = l.definitions.items ≡ map (λ x. (x, None)) (range_with_len 0 l.variable)
