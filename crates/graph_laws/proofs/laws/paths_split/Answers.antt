use Rattle.flow_graph.proofs.paths.Splitting.{paths_compose, fronts_are_valid, valid_paths_split}
use Rattle.graph_laws.proofs.laws.paths_split.Goals as goal

pub returns-clause-anywhere : goal.returns-clause-anywhere
returns-clause-anywhere c = paths_compose

pub returns-clause-front : goal.returns-clause-front
returns-clause-front c = fronts_are_valid

pub returns-clause-last_call : goal.returns-clause-last_call
returns-clause-last_call c = valid_paths_split
