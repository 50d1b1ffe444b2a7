use Rattle.solution_bounds.proofs.bounds.Bounds.{closed_values_are_above, points_are_bounded, agreeing_bounds_are_exact}
use Rattle.solution_bounds.proofs.laws.bounds_settle_points.Goals as goal

pub returns-clause-above : goal.returns-clause-above
returns-clause-above c = closed_values_are_above

pub returns-clause-points : goal.returns-clause-points
returns-clause-points c = points_are_bounded

pub returns-clause-agreeing : goal.returns-clause-agreeing
returns-clause-agreeing c = agreeing_bounds_are_exact
