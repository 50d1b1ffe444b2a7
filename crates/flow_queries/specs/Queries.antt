-- Words of the analyses' sets that are asked for, and what is answered.
use Rattle.std.specs.Prelude.{◌≡◌, ◌↔◌, ℕ, ◌+◌, ◌*◌, ◌<◌, Bool, true, false, if◌then◌else◌, List, Some, length, slice_get, slice_index}
use Rattle.std.specs.Prelude.{slice_index_or}
use Rattle.bit_rows.specs.Words.{has_bit}
use Rattle.flow_graph.specs.Analyses.{HasPathAt, IsInTable, is_backward}
use Rattle.flow_graph.specs.Points.{point_count}
use Rattle.flow_graph.specs.Universes.{bits}
use Rattle.flow_graph.specs.declared.analysis.Analysis.{Analysis}
use Rattle.flow_queries.specs.declared.query.Query.{Query}
use Rattle.tac_program.specs.Programs.{Program}

-- The query's point is one of the program's, and its word one of the analysis's sets.
pub record IsQueryOf (program : Program) (query : Query) : Type 0 where
  pub point : query.point < point_count program
  pub word : 64 * query.word < bits program query.analysis

-- Each query is of the program.
abbrev pub AreQueriesOf : Program → List Query → Type 0
AreQueriesOf program queries = (q : ℕ) (query : Query) → slice_get queries q ≡ Some query → IsQueryOf program query

-- The word has exactly the bits of the query's word that are in the analysis's set at its point: the meet over all valid paths there.
abbrev pub IsWordAt : Program → Query → ℕ → Type 0
IsWordAt program query word = (k : ℕ) → k < 64
    → (has_bit word k ≡ true) ↔ ((64 * query.word + k < bits program query.analysis) × IsInTable program query.analysis query.point (64 * query.word + k))

-- It has those of them that are asked.
abbrev pub IsAnswerTo : Program → Query → ℕ → Type 0
IsAnswerTo program query word = (k : ℕ) → k < 64
    → (has_bit word k ≡ true) ↔ ((has_bit query.bits k ≡ true) × (64 * query.word + k < bits program query.analysis)
    × IsInTable program query.analysis query.point (64 * query.word + k))

-- queries with a word each, and for each point whether a valid path leads to it, and from it
pub record Replies : Type 0 where
  pub queries : List Query
  pub words : List ℕ
  pub forward : List Bool
  pub backward : List Bool

-- the path flags in the direction of an analysis
abbrev pub flags_of : Replies → Analysis → List Bool
flags_of replies analysis = if is_backward analysis then replies.backward else replies.forward

-- Each query has its answer, and each point, in both directions, the flag that says whether there is a valid path.
pub record AreAnswers (program : Program) (replies : Replies) : Type 0 where
  pub count : length replies.words ≡ length replies.queries
  pub sets : (q : ℕ) (query : Query) → slice_get replies.queries q ≡ Some query → IsAnswerTo program query (slice_index replies.words q)
  pub points : (analysis : Analysis) → length (flags_of replies analysis) ≡ point_count program
  pub paths : (analysis : Analysis) (point : ℕ) → point < point_count program
      → (slice_index_or (flags_of replies analysis) point false ≡ true) ↔ HasPathAt program analysis point
