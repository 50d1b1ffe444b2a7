use Rattle.std.proofs.Common.{◌-◌, ◌≤◌, not, [], length}
use Rattle.bit_rows.proofs.rows.WordLoops.{IsDoneTo}
use Rattle.bit_rows.proofs.kernels.flip_words.Given as goal

abbrev pub invariant-lanes : goal.invariant-lanes
invariant-lanes l = record { within : l.at ≤ length l.words; so_far : IsDoneTo (λ bit _. not bit) l.fn.words [] l.at l.words }

abbrev pub decreases-lanes : goal.decreases-lanes
decreases-lanes l = length l.initial.words - l.at

abbrev pub invariant-rest : goal.invariant-rest
invariant-rest l = IsDoneTo (λ bit _. not bit) l.fn.words [] l.k l.words
