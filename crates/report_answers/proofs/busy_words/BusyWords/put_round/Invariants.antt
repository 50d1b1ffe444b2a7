use Rattle.std.proofs.Common.{◌≡◌, ◌<◌, ◌≤◌, ℕ, Some, length, slice_get, slice_index}
use Rattle.report_answers.specs.code.Busy.{AreBusy}
use Rattle.report_answers.proofs.busy_words.BusyWords.put_round.Given as goal

abbrev pub invariant-loop-test : goal.invariant-loop-test
invariant-loop-test l = record {
  count : length l.self.firsts.items ≡ length l.tests;
  done : (i point : ℕ) → i < l.test → slice_get l.tests i ≡ Some point
      → AreBusy l.round.chosen l.graph l.self.words.items point l.round.from (slice_index l.self.firsts.items i);
  left : (i point : ℕ) → l.test ≤ i → slice_get l.tests i ≡ Some point
      → AreBusy l.round.chosen l.graph l.self.words.items point l.round.until (slice_index l.self.firsts.items i);
}
