use Rattle.flow_queries.proofs.threads.Sent.{queried_cross}
use Rattle.flow_queries.proofs.solvers.GraphSolvers.answer.Goals as goal

pub run_workers-requires-send-W : goal.run_workers-requires-send-W
run_workers-requires-send-W g c = λ κs lives. search queried_cross depth 60

pub run_workers-requires-send-S : goal.run_workers-requires-send-S
run_workers-requires-send-S g c = λ κs lives. search queried_cross depth 60

pub run_workers-requires-sync-W : goal.run_workers-requires-sync-W
run_workers-requires-sync-W g c = λ κs lives. search queried_cross depth 60

pub run_workers-requires-sync-S : goal.run_workers-requires-sync-S
run_workers-requires-sync-S g c = λ κs lives. search queried_cross depth 60
