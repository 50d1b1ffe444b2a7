use Rattle.flow_queries.proofs.threads.Sent.{directions_cross}
use Rattle.flow_queries.proofs.solvers.GraphSolvers.of.Goals as goal

pub side_by_side-forward-requires-send-T : goal.side_by_side-forward-requires-send-T
side_by_side-forward-requires-send-T g c = λ κs lives. search directions_cross depth 60
