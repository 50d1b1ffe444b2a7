use Rattle.std.specs.List.{All}
use Rattle.slice_board.specs.Boards.{IsOf}
use Rattle.slice_board_tests.proofs.many_tests.round.Given as goal

abbrev pub invariant-loop-k : goal.invariant-loop-k
invariant-loop-k g l = All (IsOf l.board) l.passes.items
