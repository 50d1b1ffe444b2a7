use Rattle.summary_equations.proofs.paths.Backward.{forward_must_is_complement, backward_flags_are_reversed, backward_may_is_reversed}
use Rattle.summary_equations.proofs.paths.Backward.{backward_must_is_reversed_complement}
use Rattle.summary_equations.proofs.laws.reversal_and_complement_carry_the_meet.Goals as goal

pub returns-clause-forward_must : goal.returns-clause-forward_must
returns-clause-forward_must c = forward_must_is_complement

pub returns-clause-backward_flags : goal.returns-clause-backward_flags
returns-clause-backward_flags c = backward_flags_are_reversed

pub returns-clause-backward_may : goal.returns-clause-backward_may
returns-clause-backward_may c = backward_may_is_reversed

pub returns-clause-backward_must : goal.returns-clause-backward_must
returns-clause-backward_must c = backward_must_is_reversed_complement
