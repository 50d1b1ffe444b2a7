use Rattle.flow_lints.proofs.Lists.{LintsSoFar}
use Rattle.flow_lints.specs.code.Lints.{lint_knowledge_of}
use Rattle.flow_lints.proofs.found.LintFindings.lints.Given as goal

abbrev pub invariant-loop-point : goal.invariant-loop-point
invariant-loop-point l =
    LintsSoFar l.self.undoubted.graph.now (lint_knowledge_of l.self) l.remarks l.point l.next l.lints.items
