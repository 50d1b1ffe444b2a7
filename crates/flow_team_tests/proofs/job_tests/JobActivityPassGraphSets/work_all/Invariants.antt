use Rattle.slice_board.specs.Boards.{IsOf}
use Rattle.flow_team_tests.proofs.job_tests.JobActivityPassGraphSets.work_all.Given as goal

abbrev pub invariant-loop : goal.invariant-loop
invariant-loop l = IsOf l.self l.pass
