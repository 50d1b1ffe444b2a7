use Rattle.flow_graph.proofs.graphs.GraphLaws.{live_is_liveness, dead_variables_are_safe}
use Rattle.graph_laws.proofs.program_laws.dead_variables_are_safe.Goals as goal

pub returns-clause-liveness : goal.returns-clause-liveness
returns-clause-liveness c = live_is_liveness

pub returns-clause-safe : goal.returns-clause-safe
returns-clause-safe c = dead_variables_are_safe
