use Rattle.std.proofs.Common.{◌≡◌}
use Rattle.report_answers.specs.code.Busy.{AreRounds}
use Rattle.report_answers.proofs.busy_rounds.BusyRounds.query.Given as goal

abbrev pub invariant-loop-halving : goal.invariant-loop-halving
invariant-loop-halving l = record {
  rounds : AreRounds l.fn.self.chosen l.graph l.fn.self.tests.items l.self;
  queries : l.queries.items ≡ l.fn.queries.items;
  until : l.self.until ≡ l.fn.self.until;
  first : l.self.first ≡ l.fn.self.first;
  least : l.self.least ≡ l.fn.self.least;
  share : l.self.share ≡ l.fn.self.share;
}
