use Rattle.std.proofs.Common.{ℕ}
use Rattle.lint_texts.specs.LintTexts.{last_unreached}
use Rattle.lint_texts.specs.code.Lines.{reached_in}
use Rattle.lint_texts.proofs.Texts.{more_unreached, one_unreached}
use Rattle.text_pieces.proofs.sinks.Taking.{takes_as, takes_then}
use Rattle.lint_texts.proofs.lines.LintLines.write_unreached.Goals as goal

pub returns-then-last-point : goal.returns-then-last-point
returns-then-last-point g c =
    let program = c.args.self.now.graph.now in
    let last : ℕ = last_unreached program (reached_in c.args.self.now) c.args.point in
    takes_as _ _ _ _ c.write.ensures
    (one_unreached program c.args.point last c.last_unreached-last.result c.last_unreached-last.ensures.last c.if-last-point.true)

pub returns-else-last-point : goal.returns-else-last-point
returns-else-last-point g c =
    let program = c.args.self.now.graph.now in
    let last : ℕ = last_unreached program (reached_in c.args.self.now) c.args.point in
    takes_as _ _ _ _
    (takes_then _ _ _ _ _ (takes_then _ _ _ _ _ c.write-else-last-point.ensures c.write_number.ensures) c.write-else-last-point-2.ensures)
    (more_unreached program c.args.point last c.last_unreached-last.result c.last_unreached-last.ensures.last c.if-last-point.false c.line.result
    c.line.ensures)
