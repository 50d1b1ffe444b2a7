use Rattle.std.proofs.Common.{◌<◌, ℕ}
use Rattle.flow_graph.specs.declared.edge.Edge.TheVariants.{Step}
use Rattle.flow_graph.specs.Paths.{IsEdge}
use Rattle.flow_links.specs.Shapes.{directed_shape}
use Rattle.flow_why.specs.code.Frames.{question_of}
use Rattle.flow_why.specs.code.Marked.{Spreads}
use Rattle.flow_why.specs.code.Visits.{IsGenVisited}
use Rattle.flow_why.proofs.run.gen_points.Given as goal

abbrev pub invariant-loop-at : goal.invariant-loop-at
invariant-loop-at l = record {
  spreads : Spreads (question_of l.frame) l.fn.search l.search;
  done : (x : ℕ) → x < l.at → (y : ℕ) → IsEdge (directed_shape l.frame.links.now) (Step x y) → IsGenVisited (question_of l.frame) x y l.search;
}
