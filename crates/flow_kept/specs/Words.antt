-- Words of the analyses' sets that are asked of a kept program.
use Rattle.std.specs.Prelude.{◌≡◌, ℕ, List, Some, length, slice_get, slice_index}
use Rattle.flow_queries.specs.Queries.{IsAnswerTo}
use Rattle.flow_queries.specs.declared.query.Query.{Query}
use Rattle.tac_program.specs.Programs.{Program}

-- A word for each query, in their order: its answer.
pub record AreWordsAsked (program : Program) (queries : List Query) (words : List ℕ) : Type 0 where
  pub count : length words ≡ length queries
  pub each : (q : ℕ) (query : Query) → slice_get queries q ≡ Some query → IsAnswerTo program query (slice_index words q)
