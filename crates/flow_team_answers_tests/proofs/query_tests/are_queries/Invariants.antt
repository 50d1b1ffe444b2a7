use Rattle.std.proofs.Common.{◌≡◌, ◌<◌, ℕ, Some, slice_get}
use Rattle.flow_queries.specs.Queries.{IsQueryOf}
use Rattle.flow_queries.specs.declared.query.Query.{Query}
use Rattle.flow_team_answers_tests.proofs.query_tests.are_queries.Given as goal

abbrev pub invariant-loop-q : goal.invariant-loop-q
invariant-loop-q l = (i : ℕ) (query : Query) → i < l.q → slice_get l.queries i ≡ Some query → IsQueryOf l.graph query
