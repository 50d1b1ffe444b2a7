use Rattle.flow_graph.proofs.paths.RunLemmas.{what_finishes_is_not_doubtful}
use Rattle.flow_graph.proofs.paths.Finishing.{undoubted_finishes}
use Rattle.graph_laws.proofs.laws.undoubted_points_finish.Goals as goal

pub returns-clause-finishing : goal.returns-clause-finishing
returns-clause-finishing c = what_finishes_is_not_doubtful

pub returns-clause-undoubted : goal.returns-clause-undoubted
returns-clause-undoubted c = undoubted_finishes
