use Rattle.flow_graph.proofs.paths.RunLemmas.{continuations_are_runs, fronts_of_runs_are_runs}
use Rattle.graph_laws.proofs.laws.valid_paths_continue_as_runs.Goals as goal

pub returns-clause-continuation : goal.returns-clause-continuation
returns-clause-continuation c = continuations_are_runs

pub returns-clause-front : goal.returns-clause-front
returns-clause-front c = fronts_of_runs_are_runs
