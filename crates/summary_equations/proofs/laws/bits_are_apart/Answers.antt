use Rattle.summary_equations.proofs.solutions.Least.{bits_are_apart}
use Rattle.summary_equations.proofs.laws.bits_are_apart.Goals as goal

pub returns : goal.returns
returns c = bits_are_apart
