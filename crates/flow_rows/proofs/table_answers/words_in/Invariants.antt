use Rattle.std.proofs.Common.{◌≡◌, ◌<◌, ℕ, Some, length, slice_get, slice_index}
use Rattle.flow_queries.specs.Queries.{IsAnswerTo}
use Rattle.flow_queries.specs.declared.query.Query.{Query}
use Rattle.flow_rows.proofs.table_answers.words_in.Given as goal

abbrev pub invariant-loop-q : goal.invariant-loop-q
invariant-loop-q l = record {
  count : length l.words.items ≡ l.q;
  answered : (i : ℕ) (query : Query) → i < l.q → slice_get l.queries i ≡ Some query → IsAnswerTo l.graph query (slice_index l.words.items i);
}
