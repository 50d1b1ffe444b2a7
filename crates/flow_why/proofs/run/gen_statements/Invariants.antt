use Rattle.std.proofs.Common.{◌<◌, ℕ, get_or}
use Rattle.flow_why.specs.code.Frames.{question_of}
use Rattle.flow_why.specs.code.Marked.{Spreads}
use Rattle.flow_why.specs.code.Visits.{IsStatementGenVisited}
use Rattle.flow_why.proofs.run.gen_statements.Given as goal

abbrev pub invariant-loop-point : goal.invariant-loop-point
invariant-loop-point l = record {
  spreads : Spreads (question_of l.frame) l.fn.search l.search;
  done : (j d : ℕ) → j < l.point-index → IsStatementGenVisited l.frame (get_or l.gens j d) l.search;
}
