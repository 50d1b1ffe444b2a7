-- Where columns are touched.
use Rattle.std.specs.Prelude.{◌≡◌, ◌<◌, ℕ, Bool, true, false, List, length, slice_index, slice_index_or}
use Rattle.flow_graph.specs.Points.{point_count}
use Rattle.gen_kill.specs.Selections.{IsColumnAffected, Selection, column_count}
use Rattle.gen_kill.specs.code.Effects.{column_depends}
use Rattle.flow_regions.specs.code.Lists.{AreLists, AreLow, ArePairs, Has, IsPair}
use Rattle.flow_regions.specs.declared.lists.Lists.{Lists}

-- a column that is marked, and columns that all are
abbrev pub IsMarked : List Bool → ℕ → Type 0
IsMarked marks column = slice_index_or marks column false ≡ true

abbrev pub AreMarked : List Bool → List ℕ → Type 0
AreMarked marks columns = (k : ℕ) → k < length columns → IsMarked marks (slice_index columns k)

-- by variable the marked columns that depend on it
pub record AreDependents (selection : Selection) (marks : List Bool) (table : Lists) : Type 0 where
  pub lists : AreLists (length selection.program.variable_names) table
  pub low : AreLow (column_count selection) table.values.items
  pub each : (variable column : ℕ) → variable < length selection.program.variable_names → column < column_count selection
      → IsMarked marks column → column_depends selection variable column ≡ true → Has table variable column

-- by marked column the points that touch it
pub record AreTouches (selection : Selection) (marks : List Bool) (table : Lists) : Type 0 where
  pub lists : AreLists (column_count selection) table
  pub low : AreLow (point_count selection.program) table.values.items
  pub each : (point column : ℕ) → point < point_count selection.program → column < column_count selection
      → IsMarked marks column → IsColumnAffected selection point column → Has table column point

-- such a table of marks that these columns have
pub record HaveTouches (selection : Selection) (columns : List ℕ) (table : Lists) : Type 0 where
  pub marks : List Bool
  pub are_marked : AreMarked marks columns
  pub are_touches : AreTouches selection marks table

-- pairs of columns and points, with all marked ones that points before one touch
pub record AreTouchedTo (selection : Selection) (marks : List Bool) (until : ℕ) (keys values : List ℕ) : Type 0 where
  pub pairs : ArePairs (column_count selection) (point_count selection.program) keys values
  pub each : (point column : ℕ) → point < until → column < column_count selection → IsMarked marks column
      → IsColumnAffected selection point column → IsPair keys values (length keys) column point

-- pairs of variables and columns, with all on which marked columns before one depend
pub record AreDependentTo (selection : Selection) (marks : List Bool) (until : ℕ) (keys values : List ℕ) : Type 0 where
  pub pairs : ArePairs (length selection.program.variable_names) (column_count selection) keys values
  pub each : (variable column : ℕ) → variable < length selection.program.variable_names → column < until → IsMarked marks column
      → column_depends selection variable column ≡ true → IsPair keys values (length keys) variable column

-- Pairs are kept.
abbrev pub KeepsPairs : List ℕ → List ℕ → List ℕ → List ℕ → Type 0
KeepsPairs old_keys old_values new_keys new_values = (key value : ℕ) → IsPair old_keys old_values (length old_keys) key value
    → IsPair new_keys new_values (length new_keys) key value
