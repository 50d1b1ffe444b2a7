use Rattle.std.specs.List.{All}
use Rattle.slice_board.specs.Boards.{IsOf}
use Rattle.slice_board_tests.proofs.many_tests.rounds.Given as goal

abbrev pub invariant-loop-from : goal.invariant-loop-from
invariant-loop-from g l = All (IsOf l.board) l.passes.items
