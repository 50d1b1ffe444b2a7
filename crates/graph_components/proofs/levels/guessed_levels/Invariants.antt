use Rattle.std.proofs.Common.{◌≡◌, length}
use Rattle.graph_components.proofs.levels.guessed_levels.Given as goal

abbrev pub invariant-loop-first : goal.invariant-loop-first
invariant-loop-first l = length l.levels.items ≡ l.fn.count
