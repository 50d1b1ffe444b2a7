use Rattle.flow_rounds.proofs.rounds.Ends.{ends_at_table}
use Rattle.flow_rounds.proofs.laws.rounds_end_at_table.Goals as goal

pub returns : goal.returns
returns c = ends_at_table
