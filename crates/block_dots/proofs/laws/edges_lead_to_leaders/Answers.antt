use Rattle.block_dots.proofs.control.Partition.{edges_lead_to_leaders}
use Rattle.block_dots.proofs.laws.edges_lead_to_leaders.Goals as goal

pub returns : goal.returns
returns c = edges_lead_to_leaders
