use Rattle.slice_board.specs.Boards.{IsOf}
use Rattle.slice_board_tests.proofs.many_tests.drain.Given as goal

abbrev pub invariant-loop : goal.invariant-loop
invariant-loop l = IsOf l.board l.pass
