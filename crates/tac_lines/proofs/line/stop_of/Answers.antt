use Rattle.tac_lines.proofs.forms.LineForms.{last_stop}
use Rattle.tac_lines.proofs.line.stop_of.Goals as goal

pub returns-in-Some : goal.returns-in-Some
returns-in-Some c text = last_stop text c.args.tokens.now c.in-Some.token.now c.in-Some.ensures.value
