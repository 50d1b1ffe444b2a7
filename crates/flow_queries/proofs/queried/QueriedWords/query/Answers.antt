use Rattle.std.proofs.Common.{subst}
use Rattle.flow_queries.specs.Queries.{AreQueriesOf}
use Rattle.flow_queries.specs.code.Boards.{Queried}
use Rattle.flow_queries.proofs.queried.QueriedWords.query.Goals as goal

pub returns-clause-queries : goal.returns-clause-queries
returns-clause-queries c = subst (λ (queried : Queried). AreQueriesOf queried.program queried.order) c.self.view_is c.self.invariant.0.order
