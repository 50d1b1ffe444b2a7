use Rattle.flow_team.proofs.laws.tables_are_one.Goals as goal
use Rattle.flow_team.proofs.facts.OneTable.{tables_agree}

pub returns : goal.returns
returns c = tables_agree
