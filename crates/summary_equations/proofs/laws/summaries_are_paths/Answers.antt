use Rattle.flow_graph.proofs.paths.Splitting.{callee_paths_join}
use Rattle.summary_equations.proofs.paths.Meet.{summaries_are_paths}
use Rattle.summary_equations.proofs.laws.summaries_are_paths.Goals as goal

pub returns-clause-summaries : goal.returns-clause-summaries
returns-clause-summaries c = summaries_are_paths

pub returns-clause-callee : goal.returns-clause-callee
returns-clause-callee c = callee_paths_join
