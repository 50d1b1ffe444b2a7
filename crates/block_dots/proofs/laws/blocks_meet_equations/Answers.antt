use Rattle.block_dots.proofs.control.Chains.{blocks_meet_equations}
use Rattle.block_dots.proofs.laws.blocks_meet_equations.Goals as goal

pub returns : goal.returns
returns c = blocks_meet_equations
