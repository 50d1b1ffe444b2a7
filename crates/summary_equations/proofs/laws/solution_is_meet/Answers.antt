use Rattle.summary_equations.proofs.paths.Meet.{solution_is_meet}
use Rattle.summary_equations.proofs.laws.solution_is_meet.Goals as goal

pub returns : goal.returns
returns c = solution_is_meet
