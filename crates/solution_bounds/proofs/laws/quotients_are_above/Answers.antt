use Rattle.solution_bounds.proofs.quotients.Pieces.{pieces_bound_points, quotients_have_pieces}
use Rattle.solution_bounds.proofs.quotients.Quotients.{quotients_are_closed, quotients_are_above, quotients_bound_points}
use Rattle.solution_bounds.proofs.laws.quotients_are_above.Goals as goal

pub returns-clause-closed : goal.returns-clause-closed
returns-clause-closed c = quotients_are_closed

pub returns-clause-above : goal.returns-clause-above
returns-clause-above c = quotients_are_above

pub returns-clause-points : goal.returns-clause-points
returns-clause-points c = quotients_bound_points

pub returns-clause-pieces : goal.returns-clause-pieces
returns-clause-pieces c = pieces_bound_points

pub returns-clause-have_pieces : goal.returns-clause-have_pieces
returns-clause-have_pieces c = quotients_have_pieces
