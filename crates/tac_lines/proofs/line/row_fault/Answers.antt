use Rattle.tac_lines.proofs.forms.LineForms.{row_none, row_some}
use Rattle.tac_lines.proofs.line.row_fault.Goals as goal

pub returns-in-None : goal.returns-in-None
returns-in-None c = row_none c.args.inside c.args.text.now c.args.tokens.now c.args.bad c.loop-at.at c.loop-at.first c.loop-at-test.false c.in-None.is
    c.loop-at.invariant.first

pub returns-in-Some : goal.returns-in-Some
returns-in-Some c = row_some c.args.inside c.args.text.now c.args.tokens.now c.args.bad c.loop-at.at c.in-Some.place c.loop-at.first
    c.earlier_fault.result
    c.loop-at-test.false c.in-Some.is c.earlier_fault.ensures c.loop-at.invariant.first
