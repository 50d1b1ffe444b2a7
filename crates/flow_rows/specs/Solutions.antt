-- What the rows of a slice of a problem's bits say.
use Rattle.std.specs.Prelude.{◌≡◌, ◌↔◌, ℕ, ◌≤◌, ◌<◌, true, length}
use Rattle.bit_rows.specs.RowSet.{contains}
use Rattle.bit_rows.specs.RowTable.{RowTable, flag_at, set_at}
use Rattle.flow_graph.specs.Paths.{HasPath, SomePathHas}
use Rattle.flow_graph.specs.Points.{point_count}
use Rattle.flow_graph.specs.Problems.{may_shape}
use Rattle.gen_kill.specs.Selections.{Selection, column_transfer}
use Rattle.summary_equations.specs.Equations.{HasFlag, IsInSolution}

-- The rows have one flag for each point, true exactly where the first family holds, and of the bits from lo to hi at a point
-- exactly those of the second.
pub record TellsSlice (points lo hi : ℕ) (Flag : ℕ → Type 0) (Bit : ℕ → ℕ → Type 0) (rows : RowTable) : Type 0 where
  pub same_lo : rows.lo ≡ lo
  pub same_hi : rows.hi ≡ hi
  pub count : length rows.flags ≡ points
  pub flag : (point : ℕ) → point < points → (flag_at rows point ≡ true) ↔ Flag point
  pub bit : (point bit : ℕ) → point < points → lo ≤ bit → bit < hi → (contains (set_at rows point) bit ≡ true) ↔ Bit point bit

-- They are the least solution of the problem's equations:
abbrev pub IsLeastSolution : Selection → ℕ → ℕ → RowTable → Type 0
IsLeastSolution form lo hi rows =
    TellsSlice (point_count form.program) lo hi
    (HasFlag (may_shape form.program form.analysis))
    (λ point bit. IsInSolution (may_shape form.program form.analysis) (column_transfer form bit) point)
    rows

-- and its meet over valid paths.
abbrev pub IsMeetOverPaths : Selection → ℕ → ℕ → RowTable → Type 0
IsMeetOverPaths form lo hi rows =
    TellsSlice (point_count form.program) lo hi
    (HasPath (may_shape form.program form.analysis))
    (λ point bit. SomePathHas (may_shape form.program form.analysis) (column_transfer form bit) point)
    rows
