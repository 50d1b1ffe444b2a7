-- What the words of a slice of a problem's bits say.
use Rattle.std.specs.Prelude.{◌≡◌, ◌↔◌, ℕ, ◌≤◌, ◌<◌, ◌+◌, ◌-◌, ◌*◌, ◌/◌, ◌&&◌, ◌||◌, true, false, Bool, List, [], if◌then◌else◌, length, nat_lt}
use Rattle.std.specs.Prelude.{slice_index, slice_index_or}
use Rattle.bit_rows.specs.Words.{has_bit}
use Rattle.flow_graph.specs.Analyses.{is_backward}
use Rattle.flow_graph.specs.Problems.{MayForm, may_shape}
use Rattle.gen_kill.specs.Selections.{Selection, column_count, column_transfer}
use Rattle.flow_graph.specs.Paths.{HasPath, SomePathHas}
use Rattle.flow_graph.specs.Points.{point_count}
use Rattle.flow_links.specs.Shapes.{LinkedProgram}
use Rattle.summary_equations.specs.Equations.{IsInSolution}

-- the program of a may form, in its direction
abbrev pub direction_of : Selection → LinkedProgram
direction_of form = record { program = form.program; backward = is_backward form.analysis }

-- What a caller sees of the words of a slice: how many points, procedures and variables there are, the slice's bits, which words were solved
-- last, and for each point those words, one after the other.
pub record SliceTable : Type 0 where
  pub points : ℕ
  pub procedures : ℕ
  pub variables : ℕ
  pub lo : ℕ
  pub hi : ℕ
  pub from : ℕ
  pub until : ℕ
  pub words : List (List ℕ)

-- how many words hold the bits from one up to another
abbrev pub words_between : ℕ → ℕ → ℕ
words_between lo hi = (hi + 63) / 64 - lo / 64

-- How many words a slice of so many words solves at once, at so many points: eight where it has more than 64, or more than four at more points
-- than a program within the standard limits has, and else four.
abbrev pub words_at_once : ℕ → ℕ → ℕ
words_at_once points words = if (nat_lt 64 words || (nat_lt 16384 points && nat_lt 4 words)) then 8 else 4

-- a word at a point
abbrev pub word_at : SliceTable → ℕ → ℕ → ℕ
word_at slice point word = slice_index (slice_index_or slice.words point []) (word - slice.from)

-- A slice is of a problem's bits, at its points.
pub record IsSliceOf (form : Selection) (slice : SliceTable) : Type 0 where
  pub points : slice.points ≡ point_count form.program
  pub procedures : slice.procedures ≡ (may_shape form.program form.analysis).procedures
  pub variables : slice.variables ≡ length form.program.variable_names
  pub ordered : slice.lo ≤ slice.hi
  pub within : slice.hi ≤ column_count form

-- The words that were solved tell, at each point, of the slice's bits exactly those of a family, and 0 at all other places.
abbrev pub TellWords : (ℕ → ℕ → Type 0) → SliceTable → Type 0
TellWords Bit slice = (point word k : ℕ) → point < slice.points → slice.from ≤ word → word < slice.until → k < 64
    → (has_bit (word_at slice point word) k ≡ true) ↔ ((slice.lo ≤ 64 * word + k) × (64 * word + k < slice.hi) × Bit point (64 * word + k))

-- They are words of the least solution,
abbrev pub AreSolved : Selection → SliceTable → Type 0
AreSolved form = TellWords (λ point bit. IsInSolution (may_shape form.program form.analysis) (column_transfer form bit) point)

-- and of the meet over valid paths.
abbrev pub AreMeetWords : Selection → SliceTable → Type 0
AreMeetWords form = TellWords (λ point bit. SomePathHas (may_shape form.program form.analysis) (column_transfer form bit) point)

-- one flag for each point, set exactly where some valid path leads to it
pub record HasPathFlags (form : MayForm) (flags : List Bool) : Type 0 where
  pub count : length flags ≡ point_count form.program
  pub flag : (point : ℕ) → point < point_count form.program
      → (slice_index_or flags point false ≡ true) ↔ HasPath (may_shape form.program form.analysis) point
