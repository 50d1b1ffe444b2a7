use Rattle.tac_lines.proofs.lines.Lines.{lines_join}
use Rattle.tac_lines.proofs.laws.lines_join.Goals as goal

pub returns : goal.returns
returns c = lines_join
