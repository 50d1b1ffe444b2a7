use Rattle.flow_graph.proofs.paths.Splitting.{matched_returns_leave_their_callee}
use Rattle.graph_laws.proofs.laws.matched_returns_leave_their_callee.Goals as goal

pub returns : goal.returns
returns c = matched_returns_leave_their_callee
