use Rattle.block_dots.proofs.sets.Exposed.{statements_compose}
use Rattle.block_dots.proofs.laws.statements_compose.Goals as goal

pub returns : goal.returns
returns c = statements_compose
