-- The bits of an analysis that are solved side by side: all of them, or chosen ones.
--
-- Each bit of a gen-kill problem is a problem of its own (Kildall 1973; locally separable problems: Reps, Horwitz, Sagiv 1995). So who asks
-- for few bits has these solved alone. A column is the place of a bit among those that are solved.
use Rattle.std.specs.Prelude.{◌≡◌, ◌⊎◌, ◌<◌, ℕ, Bool, true, false, List, Option, Some, None, length, option_map, slice_index}
use Rattle.std.specs.Prelude.{slice_index_or, unwrap_or}
use Rattle.flow_graph.specs.Paths.{Transfer}
use Rattle.flow_graph.specs.Problems.{MayForm, may_boundary, may_gens, may_kills, may_transfer}
use Rattle.flow_graph.specs.Universes.{bits}
use Rattle.flow_graph.specs.declared.analysis.Analysis.{Analysis}
use Rattle.tac_program.specs.Programs.{Program}

-- An analysis of a program, and the chosen bits in the order of their columns; without them all bits are solved, each its own column.
pub record Selection : Type 0 where
  pub program : Program
  pub analysis : Analysis
  pub chosen : Option (List ℕ)

-- all bits of an analysis
abbrev pub all_bits : Program → Analysis → Selection
all_bits program analysis = record { program = program; analysis = analysis; chosen = None }

-- chosen bits of it
abbrev pub some_bits : Program → Analysis → List ℕ → Selection
some_bits program analysis chosen = record { program = program; analysis = analysis; chosen = Some chosen }

-- the may form whose bits these are
abbrev pub may_form : Selection → MayForm
may_form selection = record { program = selection.program; analysis = selection.analysis }

-- how many columns there are, and which bit a column is
abbrev pub column_count : Selection → ℕ
column_count selection = unwrap_or (option_map length selection.chosen) (bits selection.program selection.analysis)

abbrev pub bit_in : Option (List ℕ) → ℕ → ℕ
bit_in chosen column = unwrap_or (option_map (λ list. slice_index list column) chosen) column

abbrev pub bit_of : Selection → ℕ → ℕ
bit_of selection column = bit_in selection.chosen column

-- The column is the bit's.
abbrev pub IsColumnOf : Selection → ℕ → ℕ → Type 0
IsColumnOf selection bit column = (column < column_count selection) × (bit_of selection column ≡ bit)

-- The transfer of a column is that of its bit; and so are gen and kill of statements, and the boundary.
abbrev pub column_transfer : Selection → ℕ → Transfer
column_transfer selection column = may_transfer selection.program selection.analysis (bit_of selection column)

abbrev pub column_gens : Selection → ℕ → ℕ → Bool
column_gens selection point column = may_gens (may_form selection) point (bit_of selection column)

abbrev pub column_kills : Selection → ℕ → ℕ → Bool
column_kills selection point column = may_kills (may_form selection) point (bit_of selection column)

abbrev pub column_boundary : Selection → ℕ → Bool
column_boundary selection column = may_boundary (may_form selection) (bit_of selection column)

-- The step of the statement at a point generates the column's bit, or kills it.
abbrev pub IsColumnAffected : Selection → ℕ → ℕ → Type 0
IsColumnAffected selection point column = (column_gens selection point column ≡ true) ⊎ (column_kills selection point column ≡ true)

-- Chosen bits are bits of the analysis, and each is chosen once: they rise.
pub record AreChosen (program : Program) (analysis : Analysis) (chosen : List ℕ) : Type 0 where
  pub within : (column : ℕ) → column < length chosen → slice_index chosen column < bits program analysis
  pub rising : (i j : ℕ) → i < j → j < length chosen → slice_index chosen i < slice_index chosen j

-- The numbers of what is marked, before one: they rise, and none is left out.
pub record AreMarked (marks : List Bool) (until : ℕ) (numbers : List ℕ) : Type 0 where
  pub below : (k : ℕ) → k < length numbers → slice_index numbers k < until
  pub rising : (i j : ℕ) → i < j → j < length numbers → slice_index numbers i < slice_index numbers j
  pub marked : (k : ℕ) → k < length numbers → slice_index_or marks (slice_index numbers k) false ≡ true
  pub all : (number : ℕ) → number < until → slice_index_or marks number false ≡ true → (k : ℕ) × (k < length numbers) × (slice_index numbers k ≡ number)
