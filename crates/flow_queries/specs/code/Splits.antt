-- Queries of which some bits are settled.
use Rattle.std.specs.Prelude.{◌≡◌, ℕ, ◌+◌, ◌*◌, ◌/◌, ◌%◌, ◌<◌, Bool, true, false, List, Some, length, slice_get, slice_index}
use Rattle.bit_rows.specs.Words.{has_bit}
use Rattle.flow_bounds.specs.declared.asked.Ask.{Ask}
use Rattle.flow_graph.specs.declared.analysis.Analysis.{Analysis}
use Rattle.flow_team.specs.Sets.{IsInColumns}
use Rattle.flow_queries.specs.code.Directions.{selection_of}
use Rattle.flow_queries.specs.declared.query.Query.{Query}
use Rattle.tac_program.specs.Programs.{Program}

-- the bit of a query's place is in the may form's set at the query's point
abbrev pub IsSetBit : Program → Query → ℕ → Type 0
IsSetBit program query k = IsInColumns (selection_of program query.analysis) query.point (64 * query.word + k)

-- Of a query's bits some are left; of the others a word has those that are in the may form's set at its point.
pub record IsSplit (program : Program) (query left : Query) (found : ℕ) : Type 0 where
  pub analysis : left.analysis ≡ query.analysis
  pub point : left.point ≡ query.point
  pub word : left.word ≡ query.word
  pub within : (k : ℕ) → k < 64 → has_bit left.bits k ≡ true → has_bit query.bits k ≡ true
  pub sound : (k : ℕ) → k < 64 → has_bit found k ≡ true → (has_bit query.bits k ≡ true) × IsSetBit program query k
  pub complete : (k : ℕ) → k < 64 → has_bit left.bits k ≡ false → has_bit query.bits k ≡ true → IsSetBit program query k → has_bit found k ≡ true

-- So it is of all queries, one by one.
pub record AreSplit (program : Program) (queries left : List Query) (found : List ℕ) : Type 0 where
  pub left_count : length left ≡ length queries
  pub found_count : length found ≡ length queries
  pub each : (q : ℕ) (query rest : Query) → slice_get queries q ≡ Some query → slice_get left q ≡ Some rest → IsSplit program query rest (slice_index found q)

-- A query of an analysis asks for a bit.
pub record AsksFor (query : Query) (analysis : Analysis) (ask : Ask) : Type 0 where
  pub goes : query.analysis ≡ analysis
  pub point : query.point ≡ ask.point
  pub word : query.word ≡ ask.column / 64
  pub bit : has_bit query.bits (ask.column % 64) ≡ true

-- A query asks for the bit of a place, and whether it is in the may form's set is known.
pub record IsKnownBit (program : Program) (query : Query) (place : ℕ) (has : Bool) : Type 0 where
  pub asked : has_bit query.bits place ≡ true
  pub had : has ≡ true → IsSetBit program query place
  pub lacked : has ≡ false → IsSetBit program query place → ⊥
