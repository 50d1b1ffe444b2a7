use Rattle.summary_equations.proofs.solutions.Least.{solution_is_closed}
use Rattle.summary_equations.proofs.laws.solution_is_closed.Goals as goal

pub returns : goal.returns
returns c = solution_is_closed
