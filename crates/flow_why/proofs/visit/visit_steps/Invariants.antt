use Rattle.std.proofs.Common.{◌≡◌, ◌<◌, ℕ, false, get_or}
use Rattle.flow_why.specs.code.Found.{Has}
use Rattle.flow_why.specs.code.Frames.{question_of, transfer_for}
use Rattle.flow_why.specs.code.Marked.{Spreads}
use Rattle.flow_why.proofs.visit.visit_steps.Given as goal

abbrev pub invariant-loop-to : goal.invariant-loop-to
invariant-loop-to l = record {
  spreads : Spreads (question_of l.frame) l.fn.search l.search;
  done : (j d : ℕ) → j < l.to-index → (transfer_for l.frame).kill l.at (get_or l.steps j d) ≡ false → Has l.search l.claim (get_or l.steps j d);
}
