use Rattle.flow_graph.proofs.paths.Splitting.{valid_paths_split}
use Rattle.summary_equations.proofs.paths.Entries.{entries_are_paths}
use Rattle.summary_equations.proofs.laws.entries_are_paths.Goals as goal

pub returns-clause-entries : goal.returns-clause-entries
returns-clause-entries c = entries_are_paths

pub returns-clause-split : goal.returns-clause-split
returns-clause-split c = valid_paths_split
