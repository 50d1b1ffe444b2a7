use Rattle.std.proofs.Common.{◌≡◌, ◌<◌, ℕ, get_or, length, take, if◌then◌else◌}
use Rattle.graph_components.specs.code.Marks.{in_both}
use Rattle.graph_components.proofs.components.number_marked.Given as goal

abbrev pub invariant-loop-node : goal.invariant-loop-node
invariant-loop-node l = record {
  count : length l.numbers.items ≡ length l.fn.numbers.items;
  each : (node : ℕ) → node < length l.fn.numbers.items → get_or l.numbers.items node 0
      ≡ (if in_both (take l.node-index l.nodes) l.marks l.stamp node then l.stamp else get_or l.fn.numbers.items node 0);
}
