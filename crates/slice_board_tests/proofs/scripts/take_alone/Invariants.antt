use Rattle.slice_board.specs.Boards.{IsOf}
use Rattle.slice_board_tests.specs.Benches.{AreNoted}
use Rattle.slice_board_tests.proofs.scripts.take_alone.Given as goal

abbrev pub invariant-loop-step : goal.invariant-loop-step
invariant-loop-step l = record { of : IsOf l.board l.worker.pass; noted : AreNoted l.worker.mine l.worker.pass.posted }
