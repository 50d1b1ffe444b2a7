use Rattle.tac_reader.proofs.programs.WithinLimits.{programs_are_within}
use Rattle.tac_reader.proofs.laws.programs_are_within.Goals as goal

pub returns : goal.returns
returns c = programs_are_within
