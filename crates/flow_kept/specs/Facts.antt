-- What is written into a caller's memory: flags and words of an analysis.
use Rattle.std.specs.Prelude.{◌≡◌, ◌↔◌, ℕ, ◌+◌, ◌-◌, ◌*◌, ◌/◌, ◌<◌, ◌≤◌, true, List, length, slice_index}
use Rattle.bit_rows.specs.Words.{has_bit, word_count}
use Rattle.flow_graph.specs.Analyses.{HasPathAt, IsInTable}
use Rattle.flow_graph.specs.Points.{point_count}
use Rattle.flow_graph.specs.Universes.{bits}
use Rattle.flow_graph.specs.declared.analysis.Analysis.{Analysis}
use Rattle.tac_program.specs.Programs.{Program}

-- from..until are points of the program, and lo..hi bits of the analysis
abbrev pub AreInRange : Program → Analysis → ℕ → ℕ → ℕ → ℕ → Type 0
AreInRange program analysis from until lo hi = (from ≤ until) × (until ≤ point_count program) × (lo ≤ hi) × (hi ≤ bits program analysis)

-- from..until are points of the program
abbrev pub ArePointsOf : Program → ℕ → ℕ → Type 0
ArePointsOf program from until = (from ≤ until) × (until ≤ point_count program)

-- One number for each point of from..until: 1 exactly where something holds of it, and else 0.
pub record AreFlagsOf (Holds : ℕ → Type 0) (from until : ℕ) (flags : List ℕ) : Type 0 where
  pub count : length flags ≡ until - from
  pub flag : (row : ℕ) → row < until - from → slice_index flags row < 2
  pub told : (row : ℕ) → row < until - from → (slice_index flags row ≡ 1) ↔ Holds (from + row)

-- there is a flag for each point of from..until, and for each of them a word for each that holds bits of lo..hi
abbrev pub HasRoom : ℕ → ℕ → ℕ → ℕ → ℕ → ℕ → Type 0
HasRoom from until lo hi flags words = (flags ≡ until - from) × (words ≡ (until - from) * word_count lo hi)

-- The word tells of the bits from 64 * number on: of those in lo..hi which are in the analysis's set at the point; its other places are 0.
abbrev pub IsFactWord : Program → Analysis → ℕ → ℕ → ℕ → ℕ → ℕ → Type 0
IsFactWord program analysis lo hi point number word =
    (k : ℕ) → k < 64
    → (has_bit word k ≡ true) ↔ ((lo ≤ 64 * number + k) × (64 * number + k < hi) × IsInTable program analysis point (64 * number + k))

-- the same of the points from one on: row 0 is that point
abbrev pub IsRowWord : Program → Analysis → ℕ → ℕ → ℕ → ℕ → ℕ → ℕ → Type 0
IsRowWord program analysis from lo hi row = IsFactWord program analysis lo hi (from + row)

-- One flag for each point of from..until, 1 exactly where it has a valid path and else 0, and for each of them as many words as hold the
-- bits lo..hi, the points one after the other: the analysis's meets over all valid paths.
pub record AreFactsOf (program : Program) (analysis : Analysis) (from until lo hi : ℕ) (flags words : List ℕ) : Type 0 where
  pub in_range : AreInRange program analysis from until lo hi
  pub flag_count : length flags ≡ until - from
  pub flag : (row : ℕ) → row < until - from → slice_index flags row < 2
  pub path : (row : ℕ) → row < until - from → (slice_index flags row ≡ 1) ↔ HasPathAt program analysis (from + row)
  pub count : length words ≡ (until - from) * word_count lo hi
  pub told : (row place : ℕ) → row < until - from → place < word_count lo hi
      → IsRowWord program analysis from lo hi row (lo / 64 + place) (slice_index words (row * word_count lo hi + place))
