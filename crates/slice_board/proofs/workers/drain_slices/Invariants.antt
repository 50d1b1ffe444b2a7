use Rattle.slice_board.specs.Boards.{IsOf}
use Rattle.slice_board.specs.Teams.{HaveSameShare}
use Rattle.slice_board.proofs.draining.Drained.{left_of}
use Rattle.slice_board.proofs.workers.drain_slices.Given as goal

abbrev pub invariant-slices : goal.invariant-slices
invariant-slices g l = record { of : IsOf l.job l.pass; share : HaveSameShare l.initial.pass l.pass }

abbrev pub decreases-slices : goal.decreases-slices
decreases-slices g l = left_of l.job l.pass
