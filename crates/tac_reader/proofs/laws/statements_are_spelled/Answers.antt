use Rattle.tac_reader.proofs.programs.SpelledStatements.{statements_are_spelled}
use Rattle.tac_reader.proofs.laws.statements_are_spelled.Goals as goal

pub returns : goal.returns
returns c = statements_are_spelled
