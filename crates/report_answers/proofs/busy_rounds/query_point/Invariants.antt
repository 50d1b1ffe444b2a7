use Rattle.std.proofs.Common.{◌+◌, ◌-◌, ◌≤◌}
use Rattle.report_answers.specs.code.Querying.{Queries}
use Rattle.report_answers.proofs.busy.Asked.{IsAskedDown}
use Rattle.report_answers.proofs.busy_rounds.query_point.Given as goal

abbrev pub invariant-loop-asked : goal.invariant-loop-asked
invariant-loop-asked l = record {
  past : l.first ≤ l.last;
  before : l.last ≤ l.end;
  begun : l.first ≤ l._asked;
  left : l.last + (l._asked - l.first) ≤ l.end;
  queries : Queries l.fn.words.chosen l.graph l.fn.queries.items l.queries.items (l.end - l.last);
  down : IsAskedDown l.graph l.fn.queries.items l.queries.items l.point l.first l.end l.last;
}
