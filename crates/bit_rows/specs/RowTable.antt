-- What a contract sees of `Rows`: a flag and a set for each point, all sets over one range.
use Rattle.std.specs.Prelude.{◌≡◌, ℕ, ◌≤◌, Bool, false, List, length, replicate, slice_index_or, slice_set}
use Rattle.bit_rows.specs.RowSet.{RowSet, HasRange, empty_set}

-- the range of every set, and each point's flag and set
pub record RowTable : Type 0 where
  pub lo : ℕ
  pub hi : ℕ
  pub flags : List Bool
  pub sets : List RowSet

-- the table of a range, flags and sets
abbrev pub table : ℕ → ℕ → List Bool → List RowSet → RowTable
table lo hi flags sets = record { lo = lo; hi = hi; flags = flags; sets = sets }

-- a point's flag
abbrev pub flag_at : RowTable → ℕ → Bool
flag_at t point = slice_index_or t.flags point false

-- a point's set
abbrev pub set_at : RowTable → ℕ → RowSet
set_at t point = slice_index_or t.sets point (empty_set t.lo t.hi)

-- one set for each flag, and each over the table's range
pub record IsUniform (t : RowTable) : Type 0 where
  pub ordered : t.lo ≤ t.hi
  pub count : length t.sets ≡ length t.flags
  pub ranges : (point : ℕ) → HasRange (set_at t point) t.lo t.hi

-- an empty set for each flag
abbrev pub blank_table : List Bool → ℕ → ℕ → RowTable
blank_table flags lo hi = table lo hi flags (replicate (length flags) (empty_set lo hi))

-- the table with another set at one point
abbrev pub with_set : RowTable → ℕ → RowSet → RowTable
with_set t point s = record t { sets = slice_set t.sets point s }
