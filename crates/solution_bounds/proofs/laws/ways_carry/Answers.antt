use Rattle.solution_bounds.proofs.witnesses.Reversals.{ways_reverse}
use Rattle.solution_bounds.proofs.witnesses.Ways.{ways_carry, ways_preserve}
use Rattle.solution_bounds.proofs.laws.ways_carry.Goals as goal

pub returns-clause-carry : goal.returns-clause-carry
returns-clause-carry c = ways_carry

pub returns-clause-through : goal.returns-clause-through
returns-clause-through c = ways_preserve

pub returns-clause-reversed : goal.returns-clause-reversed
returns-clause-reversed c = ways_reverse
