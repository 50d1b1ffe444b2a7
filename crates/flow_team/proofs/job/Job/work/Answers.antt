use Rattle.flow_team.proofs.threads.Sent.{sets_cross}
use Rattle.flow_team.proofs.job.Job.work.Goals as goal

pub work-requires-send-W : goal.work-requires-send-W
work-requires-send-W g c = λ κs lives. search sets_cross depth 60

pub work-requires-send-S : goal.work-requires-send-S
work-requires-send-S g c = λ κs lives. search sets_cross depth 60

pub work-requires-sync-W : goal.work-requires-sync-W
work-requires-sync-W g c = λ κs lives. search sets_cross depth 60

pub work-requires-sync-S : goal.work-requires-sync-S
work-requires-sync-S g c = λ κs lives. search sets_cross depth 60
