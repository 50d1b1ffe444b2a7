-- The queries before the next one are those of their numbers.
use Rattle.std.proofs.Common.{◌≡◌, ◌<◌, ℕ, Some, length, slice_get}
use Rattle.flow_queries.specs.declared.query.Query.{Query}
use Rattle.flow_records.specs.Queries.{IsNumberedQuery}
use Rattle.flow_records.specs.declared.queries.NumberedQuery.{NumberedQuery}
use Rattle.flow_records.proofs.queries.queries_of.Given as goal

abbrev pub invariant-loop-ask : goal.invariant-loop-ask
invariant-loop-ask l = record {
  count : length l.queries.items ≡ l.ask-index;
  each : (q : ℕ) (ask : NumberedQuery) (query : Query) → q < l.ask-index → slice_get l.asks q ≡ Some ask → slice_get l.queries.items q ≡ Some query
      → IsNumberedQuery l.graph ask query;
}
