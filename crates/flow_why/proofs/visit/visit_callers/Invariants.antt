use Rattle.std.proofs.Common.{◌<◌, ℕ, get_or}
use Rattle.flow_why.specs.code.Frames.{question_of}
use Rattle.flow_why.specs.code.Marked.{Spreads}
use Rattle.flow_why.specs.code.Visits.{IsCallerVisited}
use Rattle.flow_why.proofs.visit.visit_callers.Given as goal

abbrev pub invariant-loop-caller : goal.invariant-loop-caller
invariant-loop-caller l = record {
  spreads : Spreads (question_of l.frame) l.fn.search l.search;
  done : (j d : ℕ) → j < l.caller-index → IsCallerVisited (question_of l.frame) l.claim (get_or l.callers j d) l.fn.search l.search;
}
