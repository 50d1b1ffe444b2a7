use Rattle.flow_why.specs.code.Closed.{IsBegun, IsClosed}
use Rattle.flow_why.specs.code.Found.{Has, HasTaken, room_in}
use Rattle.flow_why.specs.code.Frames.{question_of, transfer_for}
use Rattle.flow_why.specs.code.Marked.{AreMarks, BaseHas}
use Rattle.flow_why.proofs.visits.Closing.{AreOrderly}
use Rattle.flow_why.proofs.run.run.Given as goal

abbrev pub invariant-visits : goal.invariant-visits
invariant-visits l = record {
  marks : AreMarks (question_of l.frame) l.search;
  orderly : AreOrderly l.search;
  closed : IsClosed (question_of l.frame).shape (transfer_for l.frame) (question_of l.frame).scope (BaseHas l.frame.base.now) (HasTaken l.search) (Has l.search);
  begun : IsBegun (question_of l.frame).shape (transfer_for l.frame) (BaseHas l.frame.base.now) (Has l.search);
}

abbrev pub decreases-visits : goal.decreases-visits
decreases-visits l = room_in l.search
