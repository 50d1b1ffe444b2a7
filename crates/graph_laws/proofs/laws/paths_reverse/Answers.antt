use Rattle.flow_graph.proofs.paths.Reversal.{valid_paths_reverse, values_reverse, meets_reverse, reversal_undoes_itself, reversed_is_well_formed}
use Rattle.graph_laws.proofs.laws.paths_reverse.Goals as goal

pub returns-clause-paths : goal.returns-clause-paths
returns-clause-paths c = valid_paths_reverse

pub returns-clause-values : goal.returns-clause-values
returns-clause-values c = values_reverse

pub returns-clause-twice : goal.returns-clause-twice
returns-clause-twice c = reversal_undoes_itself

pub returns-clause-well_formed : goal.returns-clause-well_formed
returns-clause-well_formed c = reversed_is_well_formed

pub returns-clause-meets : goal.returns-clause-meets
returns-clause-meets c = meets_reverse
