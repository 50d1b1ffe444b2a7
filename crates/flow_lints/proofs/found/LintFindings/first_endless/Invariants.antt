use Rattle.std.proofs.Common.{◌≡◌, ◌<◌, ℕ, false}
use Rattle.flow_lints.specs.Lints.{is_endless}
use Rattle.flow_lints.specs.code.Lints.{lint_knowledge_of}
use Rattle.flow_lints.proofs.found.LintFindings.first_endless.Given as goal

abbrev pub invariant-loop-point : goal.invariant-loop-point
invariant-loop-point l = (point : ℕ) → point < l.point → is_endless (lint_knowledge_of l.self) point ≡ false
