use Rattle.summary_equations.proofs.solutions.Decided.{solution_is_decided, meets_are_decided, backward_meets_are_decided}
use Rattle.summary_equations.proofs.laws.solution_is_decided.Goals as goal

pub returns-clause-solution : goal.returns-clause-solution
returns-clause-solution c = solution_is_decided

pub returns-clause-forward : goal.returns-clause-forward
returns-clause-forward c = meets_are_decided

pub returns-clause-backward : goal.returns-clause-backward
returns-clause-backward c = backward_meets_are_decided
