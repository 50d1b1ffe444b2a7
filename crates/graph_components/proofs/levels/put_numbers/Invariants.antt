use Rattle.std.proofs.Common.{◌≡◌, length}
use Rattle.graph_components.proofs.levels.put_numbers.Given as goal

abbrev pub invariant-loop-node : goal.invariant-loop-node
invariant-loop-node l = length l.numbers.items ≡ length l.fn.numbers.items
