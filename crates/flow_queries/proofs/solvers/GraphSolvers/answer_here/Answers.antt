use Rattle.flow_queries.proofs.threads.Sent.{queried_cross}
use Rattle.flow_queries.proofs.solvers.GraphSolvers.answer_here.Goals as goal

pub run_here-requires-send-W : goal.run_here-requires-send-W
run_here-requires-send-W c = λ κs lives. search queried_cross depth 60

pub run_here-requires-send-S : goal.run_here-requires-send-S
run_here-requires-send-S c = λ κs lives. search queried_cross depth 60

pub run_here-requires-sync-W : goal.run_here-requires-sync-W
run_here-requires-sync-W c = λ κs lives. search queried_cross depth 60

pub run_here-requires-sync-S : goal.run_here-requires-sync-S
run_here-requires-sync-S c = λ κs lives. search queried_cross depth 60
