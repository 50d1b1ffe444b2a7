use Rattle.tac_reader.proofs.layouts.KeptWords.{signs_differ}
use Rattle.tac_reader.proofs.programs.BuiltWords.{sign_operator}
use Rattle.tac_reader.proofs.laws.signs_tell_operators.Goals as goal

pub returns-clause-operators : goal.returns-clause-operators
returns-clause-operators c = sign_operator

pub returns-clause-differ : goal.returns-clause-differ
returns-clause-differ c = signs_differ
