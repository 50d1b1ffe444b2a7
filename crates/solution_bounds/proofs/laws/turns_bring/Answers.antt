use Rattle.solution_bounds.proofs.witnesses.Turns.{return_trees_carry, turns_bring}
use Rattle.solution_bounds.proofs.laws.turns_bring.Goals as goal

pub returns-clause-returns : goal.returns-clause-returns
returns-clause-returns c = return_trees_carry

pub returns-clause-turns : goal.returns-clause-turns
returns-clause-turns c = turns_bring
