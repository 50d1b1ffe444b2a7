use Rattle.flow_team.proofs.threads.Sent.{jobs_cross}
use Rattle.flow_team_tests.proofs.job_tests.worked_side_by_side.Goals as goal

pub worked_by_two-first-requires-sync-J : goal.worked_by_two-first-requires-sync-J
worked_by_two-first-requires-sync-J g c = λ κs lives. search jobs_cross depth 60
