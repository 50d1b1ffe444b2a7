use Rattle.std.proofs.Common.{◌≡◌, drop}
use Rattle.lint_styles.specs.Styles.{behind_lines}
use Rattle.lint_styles.proofs.lines.behind_lines.Given as goal

abbrev pub invariant-loop-i : goal.invariant-loop-i
invariant-loop-i l = behind_lines l.left (drop l.i l.text) ≡ behind_lines l.count l.text
