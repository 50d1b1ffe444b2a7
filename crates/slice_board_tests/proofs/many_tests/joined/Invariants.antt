use Rattle.std.specs.List.{All}
use Rattle.std.specs.Vec.{vec_len}
use Rattle.slice_board.specs.Boards.{IsOf}
use Rattle.slice_board_tests.proofs.many_tests.joined.Given as goal

abbrev pub invariant-loop-other : goal.invariant-loop-other
invariant-loop-other g l = record { of : IsOf l.board l.all; others : All (IsOf l.board) l.passes.items }

abbrev pub decreases-loop-other : goal.decreases-loop-other
decreases-loop-other g l = vec_len l.passes
