use Rattle.flow_graph.proofs.paths.RunLemmas.{dead_is_safe}
use Rattle.graph_laws.proofs.laws.dead_assignments_are_safe.Goals as goal

pub returns : goal.returns
returns c = dead_is_safe
