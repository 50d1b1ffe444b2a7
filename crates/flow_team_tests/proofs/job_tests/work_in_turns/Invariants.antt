use Rattle.slice_board.specs.Boards.{IsOf}
use Rattle.flow_team_tests.proofs.job_tests.work_in_turns.Given as goal

abbrev pub invariant-loop-turn : goal.invariant-loop-turn
invariant-loop-turn g l = record {
  first : IsOf l.job l.first;
  second : IsOf l.job l.second;
}
