-- Where slices of queries end.
use Rattle.std.specs.Prelude.{◌≡◌, ◌⊎◌, ℕ, ◌+◌, ◌*◌, ◌/◌, ◌<◌, ◌≤◌, List, Some, length, slice_get, slice_index}
use Rattle.bit_rows.specs.Slices.{ArePlaces, Slices, end_of, start_of}
use Rattle.flow_queries.specs.declared.query.Query.{Query}
use Rattle.slice_board.specs.Boards.{slice_count}

-- The queries of two numbers are of one analysis.
abbrev pub AreAlike : List Query → ℕ → ℕ → Type 0
AreAlike order i j = (one other : Query) → slice_get order i ≡ Some one → slice_get order j ≡ Some other → one.analysis ≡ other.analysis

-- Each slice has queries of one analysis.
abbrev pub AreApart : List Query → Slices → Type 0
AreApart order cut = (s j : ℕ) → s < slice_count cut → start_of cut s / 64 ≤ j → j < (end_of cut s + 63) / 64
    → AreAlike order (start_of cut s / 64) j

-- a slice ends there
abbrev pub IsEnd : List ℕ → ℕ → Type 0
IsEnd ends place = (k : ℕ) × (k < length ends) × (slice_index ends k ≡ place)

-- Of so many queries, with 64 bits each, slices end at such places, before a number of queries. Where two queries before it that follow one another are
-- not alike, one ends between them.
pub record EndTo (order : List Query) (count done : ℕ) (ends : List ℕ) : Type 0 where
  pub places : ArePlaces (64 * count) ends
  pub whole : (k : ℕ) → k < length ends → slice_index ends k ≡ 64 * (slice_index ends k / 64)
  pub highest : (k : ℕ) → k < length ends → slice_index ends k < 64 * done
  pub each : (i j : ℕ) → j ≡ i + 1 → j < done → (AreAlike order i j) ⊎ (IsEnd ends (64 * j))
