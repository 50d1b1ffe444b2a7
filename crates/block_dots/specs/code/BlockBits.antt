-- How the code finds gen and kill of a block, and writes them in lines.
use Rattle.std.specs.Prelude.{ℕ, ◌≤◌, Bool, ◌&&◌, List, if◌then◌else◌}
use Rattle.flow_graph.specs.Points.{point_count}
use Rattle.point_sets.specs.Sets.{is_bit_shown}
use Rattle.point_sets.specs.code.Lines.{names_that}
use Rattle.block_dots.specs.BlockSets.{exposed, kills_some}
use Rattle.block_dots.specs.code.Blocks.{points_of}
use Rattle.block_dots.specs.declared.block_bits.BlockBits.{BlockBits}

-- whether a bit is killed, or generated
abbrev pub block_has : BlockBits → ℕ → Bool
block_has bits bit =
    if bits.kill then kills_some bits.graph.now bits.analysis (points_of bits.block) bit
    else exposed bits.graph.now bits.analysis (points_of bits.block) bit

-- and shown
abbrev pub block_shows : BlockBits → ℕ → Bool
block_shows bits bit = block_has bits bit && is_bit_shown bits.graph.now bits.analysis bits.hides_entry bit

-- the texts of those bits, among so many from the first on
abbrev pub shown_among : BlockBits → List (List ℕ) → ℕ → ℕ → List (List ℕ)
shown_among bits = names_that (block_shows bits)

-- Its points are points of the program.
pub record AreBlockBits (bits : BlockBits) : Type 0 where
  pub ordered : bits.block.leader ≤ bits.block.end
  pub there : bits.block.end ≤ point_count bits.graph.now
