use Rattle.solution_bounds.proofs.witnesses.Ways.{trees_bring, trees_reach_points}
use Rattle.solution_bounds.proofs.laws.trees_bring.Goals as goal

pub returns-clause-procedures : goal.returns-clause-procedures
returns-clause-procedures c = trees_bring

pub returns-clause-points : goal.returns-clause-points
returns-clause-points c = trees_reach_points
