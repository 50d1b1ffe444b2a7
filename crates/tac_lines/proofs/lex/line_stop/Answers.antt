use Rattle.tac_lines.proofs.lines.LineSteps.{line_ended, line_last}
use Rattle.tac_lines.proofs.lex.line_stop.Goals as goal

pub returns-then-stop-text-clause-line : goal.returns-then-stop-text-clause-line
returns-then-stop-text-clause-line c = line_ended c.args.text.now c.args.start c.line_run.result c.line_run.ensures.run c.requires c.if-stop-text.true

pub returns-else-stop-text-clause-line : goal.returns-else-stop-text-clause-line
returns-else-stop-text-clause-line c = line_last c.args.text.now c.args.start c.line_run.result c.line_run.ensures.run c.requires c.if-stop-text.false
