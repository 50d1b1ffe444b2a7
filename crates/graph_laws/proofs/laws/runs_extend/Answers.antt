use Rattle.flow_graph.proofs.paths.RunLemmas.{runs_extend}
use Rattle.flow_graph.proofs.paths.Finishing.{undoubted_runs_extend}
use Rattle.graph_laws.proofs.laws.runs_extend.Goals as goal

pub returns-clause-settled : goal.returns-clause-settled
returns-clause-settled c = runs_extend

pub returns-clause-undoubted : goal.returns-clause-undoubted
returns-clause-undoubted c = undoubted_runs_extend
