-- How the columns of chosen bits are kept.
use Rattle.std.specs.Prelude.{◌≡◌, ◌<◌, ◌^◌, ℕ, Bool, true, false, List, Option, Some, None, length, slice_index}
use Rattle.flow_graph.specs.declared.analysis.Analysis.{Analysis}
use Rattle.gen_kill.specs.Selections.{AreChosen}
use Rattle.tac_program.specs.Programs.{Program}

-- the chosen bits, unless all bits are columns
abbrev pub chosen_if : Bool → List ℕ → Option (List ℕ)
chosen_if true list = None
chosen_if false list = Some list

-- the column is one of a chosen bit, or all bits are columns
abbrev pub HasColumn : Option (List ℕ) → ℕ → Type 0
HasColumn None column = Unit {0}
HasColumn (Some list) column = column < length list

-- At the place of each chosen bit stands its column.
pub record AreColumnsOf (chosen columns : List ℕ) : Type 0 where
  pub few : length chosen < 2 ^ 32
  pub each : (column : ℕ) → column < length chosen
      → (slice_index chosen column < length columns) × (slice_index columns (slice_index chosen column) ≡ column)

-- chosen bits are bits of the analysis, and each is chosen once
abbrev pub IsChosenOf : Program → Analysis → Option (List ℕ) → Type 0
IsChosenOf program analysis None = Unit {0}
IsChosenOf program analysis (Some chosen) = AreChosen program analysis chosen
