use Rattle.std.specs.List.{All}
use Rattle.slice_board.specs.Boards.{IsOf}
use Rattle.slice_board_tests.proofs.many_tests.split_off.Given as goal

abbrev pub invariant-loop : goal.invariant-loop
invariant-loop l = record { of : IsOf l.board l.pass; all : All (IsOf l.board) l.passes.items }
