use Rattle.flow_team.proofs.threads.Sent.{sets_cross}
use Rattle.flow_team.proofs.job.Job.join.Goals as goal

pub join-requires-send-W : goal.join-requires-send-W
join-requires-send-W c = λ κs lives. search sets_cross depth 60

pub join-requires-send-S : goal.join-requires-send-S
join-requires-send-S c = λ κs lives. search sets_cross depth 60

pub join-requires-sync-W : goal.join-requires-sync-W
join-requires-sync-W c = λ κs lives. search sets_cross depth 60

pub join-requires-sync-S : goal.join-requires-sync-S
join-requires-sync-S c = λ κs lives. search sets_cross depth 60
