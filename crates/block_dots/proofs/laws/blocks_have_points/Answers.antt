use Rattle.block_dots.proofs.control.Partition.{blocks_have_points}
use Rattle.block_dots.proofs.laws.blocks_have_points.Goals as goal

pub returns : goal.returns
returns c = blocks_have_points
