use Rattle.std.proofs.Common.{◌≡◌, ◌⊎◌, ◌+◌, ◌-◌, ◌*◌, ◌<◌, ◌≤◌, length}
use Rattle.flow_graph.specs.Points.{point_count}
use Rattle.flow_queries.specs.Queries.{AreQueriesOf}
use Rattle.report_answers.specs.code.Busy.{ArePoints}
use Rattle.report_answers.specs.code.Chosen.{AsksOnly}
use Rattle.report_answers.specs.code.Reported.{AreQueried}
use Rattle.report_answers.proofs.report_queries.report_queries.Given as goal

abbrev pub invariant-loop-point : goal.invariant-loop-point
invariant-loop-point l = record {
  queries : AreQueriesOf l.graph l.queries.items;
  only : AsksOnly l.chosen l.queries.items;
  few : length l.queries.items + length l.tests.items ≤ 4 * l.point;
  fewer : (length l.queries.items + length l.tests.items ≤ 4 * (l.point - 1)) ⊎ (l.point < point_count l.graph);
  count : length l.places.items ≡ l.point;
  queried : AreQueried l.chosen l.graph l.queries.items l.tests.items l.places.items;
  points : ArePoints l.graph l.tests.items;
  tests : length l.tests.items ≤ l.point;
}
