use Rattle.flow_graph.proofs.edges.SameEdges.{same_edges_same_paths, same_edges_same_backward_paths}
use Rattle.graph_laws.proofs.laws.same_edges_have_same_paths.Goals as goal

pub returns-clause-forward : goal.returns-clause-forward
returns-clause-forward c = same_edges_same_paths

pub returns-clause-backward : goal.returns-clause-backward
returns-clause-backward c = same_edges_same_backward_paths
