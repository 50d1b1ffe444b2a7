use Rattle.std.proofs.Common.{◌≤◌, length, drop, flat_map}
use Rattle.lint_texts.specs.LintTexts.{use_told}
use Rattle.lint_texts.specs.code.Uses.{TellUses}
use Rattle.lint_texts.proofs.uses.Uses.of.Given as goal

abbrev pub invariant-loop-at : goal.invariant-loop-at
invariant-loop-at l =
    TellUses l.uses (λ v. flat_map (use_told l.telling l.graph v) (drop l.at l.lints)) × (l.at ≤ length l.lints)

abbrev pub decreases-loop-at : goal.decreases-loop-at
decreases-loop-at l = l.at
