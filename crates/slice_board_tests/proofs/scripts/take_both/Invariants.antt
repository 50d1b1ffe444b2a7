use Rattle.slice_board.specs.Boards.{IsOf}
use Rattle.slice_board_tests.specs.Benches.{AreNoted}
use Rattle.slice_board_tests.proofs.scripts.take_both.Given as goal

abbrev pub invariant-loop-who : goal.invariant-loop-who
invariant-loop-who l = record {
  first : IsOf l.board l.first.pass;
  first_noted : AreNoted l.first.mine l.first.pass.posted;
  second : IsOf l.board l.second.pass;
  second_noted : AreNoted l.second.mine l.second.pass.posted;
}
