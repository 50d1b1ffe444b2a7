use Rattle.tac_faults.proofs.TextFaults.{none_is_accepted as law}
use Rattle.tac_faults.proofs.laws.none_is_accepted.Goals as goal

pub returns : goal.returns
returns c = law
