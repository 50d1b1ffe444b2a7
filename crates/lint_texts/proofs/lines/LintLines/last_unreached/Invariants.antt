use Rattle.std.proofs.Common.{◌≡◌, ◌+◌, ◌-◌}
use Rattle.flow_graph.specs.Points.{point_count}
use Rattle.lint_texts.specs.LintTexts.{is_unreached, last_unreached}
use Rattle.lint_texts.specs.code.Lines.{reached_in}
use Rattle.lint_texts.proofs.Runs.{run}
use Rattle.lint_texts.proofs.lines.LintLines.last_unreached.Given as goal

abbrev pub invariant-loop-next : goal.invariant-loop-next
invariant-loop-next l =
    last_unreached l.self.graph.now (reached_in l.self) l.point
    ≡ (l.next - 1) + run (is_unreached l.self.graph.now (reached_in l.self)) (point_count l.self.graph.now) l.next
