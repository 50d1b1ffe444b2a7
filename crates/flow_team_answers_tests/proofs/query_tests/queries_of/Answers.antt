use Rattle.std.proofs.Common.{List, subst}
use Rattle.flow_queries.specs.Queries.{AreQueriesOf}
use Rattle.flow_queries.specs.declared.query.Query.{Query}
use Rattle.flow_team_answers_tests.proofs.query_tests.queries_of.Goals as goal

pub returns-then-len-lt1000-clause-queries : goal.returns-then-len-lt1000-clause-queries
returns-then-len-lt1000-clause-queries c =
    subst (λ (queries : List Query). AreQueriesOf c.args.graph.now queries) c.as_slice.ensures.value (c.are_queries.ensures c.if-are_queries.true)
