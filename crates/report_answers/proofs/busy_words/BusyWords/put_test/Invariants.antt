use Rattle.std.proofs.Common.{slice_index}
use Rattle.report_answers.specs.code.Busy.{Keeps, busy_lists}
use Rattle.report_answers.proofs.busy.Asked.{IsPutTo}
use Rattle.report_answers.proofs.busy_words.BusyWords.put_test.Given as goal

abbrev pub invariant-loop-place : goal.invariant-loop-place
invariant-loop-place l = record {
  keeps : Keeps (busy_lists l.fn.self) (busy_lists l.self) l.test;
  put : IsPutTo l.fn.round.chosen l.graph l.answers.queries l.point l.fn.round.from l.fn.round.until l.place l.fn.places.1 l.self.words.items
      (slice_index l.self.firsts.items l.test);
}
