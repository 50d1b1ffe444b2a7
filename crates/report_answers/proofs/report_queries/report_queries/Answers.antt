use Rattle.std.proofs.Common.{rules, ◌≡◌, inl, inr, ◌+◌, ◌<◌, ℕ, List, [], ◌∷◌, length, ap, ◌∙◌, length-append, arith}
use Rattle.flow_graph.specs.Points.{point_count}
use Rattle.flow_queries.specs.declared.query.Query.{Query}
use Rattle.report_answers.specs.declared.report_queries.PointQueries.{PointQueries}
use Rattle.tac_program.specs.Programs.{Program}
use Rattle.report_answers.proofs.queries.Querying.{queried_more, points_more, tests_count, tests_still}
use Rattle.report_answers.proofs.report_queries.report_queries.Goals as goal

pub loop-point-preserved : goal.loop-point-preserved
loop-point-preserved c =
    let program : Program = c.args.graph.now in
    let point : ℕ = c.loop-point.point in
    let old : List Query = c.loop-point.queries.items in
    let new : List Query = c.query_point.new.queries.items in
    let before : List ℕ = c.loop-point.tests.items in
    let after : List ℕ = c.query_point.new.tests.items in
    let places : List PointQueries = c.loop-point.places.items in
    let here : PointQueries = c.in_ok-here.here in
    let answered = c.in_ok-here.ensures in
    let was = c.loop-point.invariant in
    let below : point < point_count program = search rules in
    let count : length c.push.new.self.items ≡ length places + 1 = ap length c.in_ok-push.ensures.items ∙ length-append places (here ∷ []) in
    record {
      queries = answered.queries.of was.queries;
      only = answered.queries.only was.only;
      few = omega (arith, answered.both, was.few);
      fewer = elim answered.last [
        | inl none ↦ inl (omega (arith, none, was.few))
        | inr next ↦ inr next
      ];
      count = omega (arith, count, was.count);
      queried =
          queried_more c.args.chosen program old new before after places c.push.new.self.items here point 4 c.in_ok-push.ensures.items was.count answered.queries
          (tests_still before after point answered.tests) answered.queried was.queried;
      points = points_more program before after point below answered.tests was.points;
      tests = omega (arith, tests_count before after point answered.tests, was.tests);
    }
