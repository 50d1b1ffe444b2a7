use Rattle.tac_faults.proofs.TextFaults.{first_is_the_readers as law}
use Rattle.tac_faults.proofs.laws.first_is_the_readers.Goals as goal

pub returns : goal.returns
returns c = law
