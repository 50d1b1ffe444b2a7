-- Problems of the bits that are asked.
use Rattle.std.specs.Prelude.{◌≡◌, ℕ, ◌+◌, ◌*◌, ◌/◌, ◌%◌, ◌<◌, true, false, Bool, List, Option, Some, length, slice_get, slice_index, slice_index_or}
use Rattle.bit_rows.specs.Words.{has_bit}
use Rattle.flow_graph.specs.AnalysisNumbers.{analysis_number}
use Rattle.flow_graph.specs.Universes.{bits}
use Rattle.flow_graph.specs.declared.analysis.Analysis.{Analysis}
use Rattle.flow_queries.specs.declared.query.Query.{Query}
use Rattle.gen_kill.specs.Selections.{IsColumnOf, Selection}
use Rattle.tac_program.specs.Programs.{Program}

-- The bits that a query asks for have columns, if they are bits of the problem's analysis.
pub record HasColumns (selection : Selection) (query : Query) : Type 0 where
  pub goes : query.analysis ≡ selection.analysis
  pub columns : (k : ℕ) → k < 64 → has_bit query.bits k ≡ true → 64 * query.word + k < bits selection.program query.analysis
      → (column : ℕ) × IsColumnOf selection (64 * query.word + k) column

-- So they have of all these queries that are of an analysis, which is the problem's.
pub record HasAsked (queries : List Query) (analysis : Analysis) (selection : Selection) : Type 0 where
  pub goes : selection.analysis ≡ analysis
  pub each : (q : ℕ) (query : Query) → slice_get queries q ≡ Some query → query.analysis ≡ analysis → HasColumns selection query

-- If an analysis has a problem of the bits that are asked alone, these have columns there.
abbrev pub IsPackedFor : Program → List Query → Analysis → Option Selection → Type 0
IsPackedFor program queries analysis packed = (selection : Selection) → packed ≡ Some selection
    → (selection.program ≡ program) × HasAsked queries analysis selection

-- One for each analysis, at its number.
pub record ArePacked (program : Program) (queries : List Query) (list : List (Option Selection)) : Type 0 where
  pub count : length list ≡ 4
  pub each : (analysis : Analysis) (packed : Option Selection) → slice_get list (analysis_number analysis) ≡ Some packed
      → IsPackedFor program queries analysis packed

-- The words have the bits of an analysis that the queries before a number ask for.
pub record AreAskedWords (queries : List Query) (analysis : Analysis) (before : ℕ) (words : List ℕ) : Type 0 where
  pub asked : (q : ℕ) (query : Query) (k : ℕ) → q < before → slice_get queries q ≡ Some query → query.analysis ≡ analysis
      → query.word < length words → has_bit query.bits k ≡ true → has_bit (slice_index words query.word) k ≡ true

-- The marks before a number are the bits of words.
pub record AreMarksOf (words : List ℕ) (marks : List Bool) : Type 0 where
  pub each : (bit : ℕ) → bit < length marks → slice_index_or marks bit false ≡ has_bit (slice_index words (bit / 64)) (bit % 64)
