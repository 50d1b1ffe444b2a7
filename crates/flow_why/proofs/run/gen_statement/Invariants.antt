use Rattle.std.proofs.Common.{◌<◌, ℕ, get_or}
use Rattle.flow_graph.specs.declared.edge.Edge.{Edge}
use Rattle.flow_why.specs.code.Frames.{question_of}
use Rattle.flow_why.specs.code.Marked.{Spreads}
use Rattle.flow_why.specs.code.Visits.{IsEdgeGenVisited}
use Rattle.flow_why.proofs.run.gen_statement.Given as goal

abbrev pub invariant-loop-edge : goal.invariant-loop-edge
invariant-loop-edge l = record {
  spreads : Spreads (question_of l.frame) l.fn.search l.search;
  done : (j : ℕ) (d : Edge) → j < l.edge-index → IsEdgeGenVisited l.frame (get_or l.edge-items j d) l.search;
}
