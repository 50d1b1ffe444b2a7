use Rattle.std.proofs.Common.{◌-◌, ◌≤◌, ◌&&◌, length}
use Rattle.bit_rows.proofs.rows.WordLoops.{IsDoneTo}
use Rattle.bit_rows.proofs.kernels.and_words.Given as goal

abbrev pub invariant-lanes : goal.invariant-lanes
invariant-lanes l = record { within : l.at ≤ length l.target; so_far : IsDoneTo (◌&&◌) l.fn.target l.source l.at l.target }

abbrev pub decreases-lanes : goal.decreases-lanes
decreases-lanes l = length l.initial.target - l.at

abbrev pub invariant-rest : goal.invariant-rest
invariant-rest l = IsDoneTo (◌&&◌) l.fn.target l.source l.k l.target
