-- Solved words put into rows.
use Rattle.std.specs.Prelude.{◌≡◌, ◌↔◌, ◌⊎◌, ℕ, ◌+◌, ◌*◌, ◌/◌, ◌%◌, ◌≤◌, ◌<◌, true, length}
use Rattle.bit_rows.specs.RowSet.{contains}
use Rattle.bit_rows.specs.RowTable.{RowTable, IsUniform, set_at}
use Rattle.bit_rows.specs.Words.{has_bit}
use Rattle.flow_graph.specs.Problems.{may_shape}
use Rattle.gen_kill.specs.Selections.{Selection, column_transfer}
use Rattle.flow_graph.specs.Points.{point_count}
use Rattle.summary_equations.specs.Equations.{HasFlag, IsInSolution}
use Rattle.gk_solve.specs.Solved.{SliceTable, word_at}
use Rattle.flow_rows.specs.Solutions.{TellsSlice}

-- The rows have got the bits of a family, as far as they lie within their range; all else is as it was.
pub record IsPut (Bit : ℕ → ℕ → Type 0) (old new : RowTable) : Type 0 where
  pub uniform : IsUniform new
  pub same_lo : new.lo ≡ old.lo
  pub same_hi : new.hi ≡ old.hi
  pub same_flags : new.flags ≡ old.flags
  pub bit : (point bit : ℕ) → point < length old.flags → old.lo ≤ bit → bit < old.hi
      → (contains (set_at new point) bit ≡ true) ↔ ((contains (set_at old point) bit ≡ true) ⊎ Bit point bit)

-- a bit is in the words of a slice that were solved last
abbrev pub IsInWords : SliceTable → ℕ → ℕ → Type 0
IsInWords slice point bit = (slice.from ≤ bit / 64) × (bit / 64 < slice.until) × (has_bit (word_at slice point (bit / 64)) (bit % 64) ≡ true)

-- the words that were solved last have no bit outside the slice
abbrev pub AreWithin : SliceTable → Type 0
AreWithin slice = (point word k : ℕ) → point < slice.points → slice.from ≤ word → word < slice.until → k < 64
    → has_bit (word_at slice point word) k ≡ true
    → (slice.lo ≤ 64 * word + k) × (64 * word + k < slice.hi)

-- The rows of a slice tell the problem's flags, and its solution at the bits below a limit.
abbrev pub TellsBelow : Selection → ℕ → ℕ → ℕ → RowTable → Type 0
TellsBelow form limit lo hi rows =
    TellsSlice (point_count form.program) lo hi
    (HasFlag (may_shape form.program form.analysis))
    (λ point bit. (bit < limit) × IsInSolution (may_shape form.program form.analysis) (column_transfer form bit) point)
    rows
