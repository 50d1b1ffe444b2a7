use Rattle.std.proofs.Common.{◌≡◌, ◌≤◌, take}
use Rattle.std.specs.List.{count_by}
use Rattle.lint_texts.specs.LintTexts.{is_remark_told}
use Rattle.lint_texts.specs.code.Lines.{known_in}
use Rattle.lint_texts.proofs.lines.LintLines.told_count.Given as goal

abbrev pub invariant-loop-placed : goal.invariant-loop-placed
invariant-loop-placed l =
    (l.count ≡ count_by (is_remark_told l.self.telling l.self.graph.now (known_in l.self).uses) (take l.placed-index l.lints)) × (l.count ≤ l.placed-index)
