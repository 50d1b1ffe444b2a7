-- The sets that workers publish: those of the may form of an analysis.
use Rattle.std.specs.Prelude.{ℕ, ◌<◌}
use Rattle.flow_graph.specs.Problems.{may_shape, may_transfer, MayForm}
use Rattle.flow_graph.specs.Paths.{HasPath, SomePathHas}
use Rattle.flow_graph.specs.Points.{point_count}
use Rattle.flow_graph.specs.Universes.{bits}
use Rattle.gen_kill.specs.Selections.{Selection, all_bits, column_count, column_transfer}

-- some valid path leads to the point, in the direction of the may form
abbrev pub HasMayPath : MayForm → ℕ → Type 0
HasMayPath form point = HasPath (may_shape form.program form.analysis) point

-- The bit is in the may form's set at the point: some valid path has it. For available and very busy expressions that says
-- that the expression is not in the table.
abbrev pub IsInMaySet : MayForm → ℕ → ℕ → Type 0
IsInMaySet form point bit =
    (point < point_count form.program) × (bit < bits form.program form.analysis)
    × SomePathHas (may_shape form.program form.analysis) (may_transfer form.program form.analysis bit) point

-- The same of the bits that were selected, by columns: some valid path has the column's bit.
abbrev pub IsInColumns : Selection → ℕ → ℕ → Type 0
IsInColumns selection point column =
    (point < point_count selection.program) × (column < column_count selection)
    × SomePathHas (may_shape selection.program selection.analysis) (column_transfer selection column) point

-- all bits of a may form
abbrev pub whole : MayForm → Selection
whole form = all_bits form.program form.analysis
