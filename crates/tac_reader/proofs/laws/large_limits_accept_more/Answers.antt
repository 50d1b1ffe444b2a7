use Rattle.tac_reader.proofs.programs.WithinLimits.{large_limits_accept_more}
use Rattle.tac_reader.proofs.laws.large_limits_accept_more.Goals as goal

pub returns : goal.returns
returns c = large_limits_accept_more
