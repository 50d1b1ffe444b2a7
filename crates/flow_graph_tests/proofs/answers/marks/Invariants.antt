use Rattle.std.proofs.Common.{◌≡◌, length}
use Rattle.flow_graph_tests.proofs.answers.marks.Given as goal

abbrev pub invariant-loop-point : goal.invariant-loop-point
invariant-loop-point l = length l.marks.items ≡ l.point-counter
