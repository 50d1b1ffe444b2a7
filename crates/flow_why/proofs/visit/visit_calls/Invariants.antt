use Rattle.std.proofs.Common.{◌<◌, ℕ, get_or}
use Rattle.flow_links.specs.Shapes.{directed_shape}
use Rattle.flow_links.specs.declared.link.CallLink.{CallLink}
use Rattle.flow_why.specs.code.Frames.{question_of}
use Rattle.flow_why.specs.code.Marked.{Spreads}
use Rattle.flow_why.specs.code.Visits.{IsCallVisited}
use Rattle.flow_why.proofs.visit.visit_calls.Given as goal

abbrev pub invariant-loop-call : goal.invariant-loop-call
invariant-loop-call l = record {
  spreads : Spreads (question_of l.frame) l.fn.search l.search;
  done : (j : ℕ) (d : CallLink) → j < l.call-index
      → IsCallVisited (question_of l.frame) l.claim l.at ((directed_shape l.frame.links.now).procedure_of
      (get_or l.calls j d).exit) l.fn.search l.search;
}
