use Rattle.flow_why.proofs.unfoldings.Programs.{backward_witnesses_are_of_programs, forward_witnesses_are_of_programs}
use Rattle.flow_why.proofs.laws.witnesses_are_of_programs.Goals as goal

pub returns : goal.returns
returns c = record { forward = forward_witnesses_are_of_programs; backward = backward_witnesses_are_of_programs }
