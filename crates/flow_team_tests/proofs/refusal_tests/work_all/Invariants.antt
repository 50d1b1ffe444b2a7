use Rattle.slice_board.specs.Boards.{IsOf}
use Rattle.flow_team_tests.proofs.refusal_tests.work_all.Given as goal

abbrev pub invariant-loop-slice : goal.invariant-loop-slice
invariant-loop-slice g l = IsOf l.job l.pass
