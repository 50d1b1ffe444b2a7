use Rattle.std.proofs.Common.{◌≡◌, length}
use Rattle.std.specs.List.{filter, range_with_len}
use Rattle.flow_lints.specs.Lints.{is_left_out}
use Rattle.flow_lints.specs.code.Lints.{lint_knowledge_of}
use Rattle.flow_lints.proofs.found.LintFindings.left_out.Given as goal

abbrev pub invariant-loop-point : goal.invariant-loop-point
invariant-loop-point l =
    l.count ≡ length (filter (is_left_out l.self.undoubted.graph.now (lint_knowledge_of l.self)) (range_with_len 0 l.point))
