use Rattle.std.proofs.Common.{◌<◌, ℕ, get_or}
use Rattle.flow_why.specs.code.Frames.{question_of}
use Rattle.flow_why.specs.code.Marked.{Spreads}
use Rattle.flow_why.specs.code.Visits.{IsGenVisited}
use Rattle.flow_why.proofs.run.gen_steps.Given as goal

abbrev pub invariant-loop-to : goal.invariant-loop-to
invariant-loop-to l = record {
  spreads : Spreads (question_of l.frame) l.fn.search l.search;
  done : (j d : ℕ) → j < l.to-index → IsGenVisited (question_of l.frame) l.at (get_or l.steps j d) l.search;
}
