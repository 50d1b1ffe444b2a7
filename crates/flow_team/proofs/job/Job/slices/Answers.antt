use Rattle.flow_team.proofs.threads.Sent.{sets_cross}
use Rattle.flow_team.proofs.job.Job.slices.Goals as goal

pub slices-requires-send-W : goal.slices-requires-send-W
slices-requires-send-W c = λ κs lives. search sets_cross depth 60

pub slices-requires-send-S : goal.slices-requires-send-S
slices-requires-send-S c = λ κs lives. search sets_cross depth 60

pub slices-requires-sync-W : goal.slices-requires-sync-W
slices-requires-sync-W c = λ κs lives. search sets_cross depth 60

pub slices-requires-sync-S : goal.slices-requires-sync-S
slices-requires-sync-S c = λ κs lives. search sets_cross depth 60
