use Rattle.solution_bounds.proofs.witnesses.Justified.{justified_values_are_below}
use Rattle.solution_bounds.proofs.laws.justified_values_are_below.Goals as goal

pub returns : goal.returns
returns c = justified_values_are_below
