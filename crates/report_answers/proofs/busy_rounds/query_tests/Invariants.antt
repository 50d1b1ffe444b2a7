use Rattle.std.proofs.Common.{◌+◌, ◌-◌, ◌*◌, ◌≤◌, length}
use Rattle.report_answers.specs.code.Querying.{Queries}
use Rattle.report_answers.proofs.busy.Asked.{AreAskedTo}
use Rattle.report_answers.proofs.busy_rounds.query_tests.Given as goal

abbrev pub invariant-loop-test : goal.invariant-loop-test
invariant-loop-test l = record {
  queries : Queries l.words.chosen l.graph l.fn.queries.items l.queries.items (l.test * (l.words.end - l.words.first));
  asked : AreAskedTo l.graph l.tests l.words.first l.words.end l.test l.starts.items l.queries.items;
  few : length l.queries.items ≤ length l.fn.queries.items + l.most;
}
