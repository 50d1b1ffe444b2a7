use Rattle.flow_team.proofs.threads.Sent.{sets_cross}
use Rattle.flow_team.proofs.job.Job.split.Goals as goal

pub split-requires-send-W : goal.split-requires-send-W
split-requires-send-W c = λ κs lives. search sets_cross depth 60

pub split-requires-send-S : goal.split-requires-send-S
split-requires-send-S c = λ κs lives. search sets_cross depth 60

pub split-requires-sync-W : goal.split-requires-sync-W
split-requires-sync-W c = λ κs lives. search sets_cross depth 60

pub split-requires-sync-S : goal.split-requires-sync-S
split-requires-sync-S c = λ κs lives. search sets_cross depth 60
