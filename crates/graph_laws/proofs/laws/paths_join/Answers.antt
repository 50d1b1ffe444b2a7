use Rattle.flow_graph.proofs.paths.Splitting.{steps_join, callee_paths_join, calls_enter}
use Rattle.graph_laws.proofs.laws.paths_join.Goals as goal

pub returns-clause-step : goal.returns-clause-step
returns-clause-step c = steps_join

pub returns-clause-callee : goal.returns-clause-callee
returns-clause-callee c = callee_paths_join

pub returns-clause-call : goal.returns-clause-call
returns-clause-call c = calls_enter
