use Rattle.flow_graph.proofs.graphs.GraphLaws.{edges_join_points}
use Rattle.graph_laws.proofs.program_laws.edges_join_points.Goals as goal

pub returns : goal.returns
returns c = edges_join_points
