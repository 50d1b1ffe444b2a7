use Rattle.std.proofs.Common.{map, ap, ◌∙◌, sym, ◌++◌}
use Rattle.flow_graph.specs.Edges.{edges}
use Rattle.flow_graph.specs.Reversals.{reversed_edge}
use Rattle.flow_graph.proofs.edges.DirectedEdges.{reversed_are_directed}
use Rattle.flow_graph.proofs.graph.Graph.directed_edges.Goals as goal

pub returns-in_ok-put_all-in-Backward : goal.returns-in_ok-put_all-in-Backward
returns-in_ok-put_all-in-Backward c =
    reversed_are_directed c.args.self.now c.args.analysis c.put_all-in-Backward.new.edges.edges.items
    (sym c.in-Backward.ensures)
    (c.in_ok-put_all-in-Backward.ensures ∙ ap (λ es. map reversed_edge es ++ edges c.args.self.now) c.in_ok-edges.ensures.items)
