use Rattle.tac_lines.proofs.forms.Apart.{statements_are_apart}
use Rattle.tac_lines.proofs.laws.statements_are_apart.Goals as goal

pub returns : goal.returns
returns c = statements_are_apart
