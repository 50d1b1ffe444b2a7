-- Bits that are asked, and what bounds tell of them.
use Rattle.std.specs.Prelude.{◌≡◌, ◌<◌, ℕ, List, Some, length, slice_get, slice_index_or}
use Rattle.flow_graph.specs.Points.{point_count}
use Rattle.gen_kill.specs.Selections.{Selection, column_count, column_transfer}
use Rattle.flow_graph.specs.Paths.{SomePathHas}
use Rattle.flow_graph.specs.Problems.{may_shape}
use Rattle.flow_bounds.specs.declared.asked.Ask.{Ask}
use Rattle.flow_bounds.specs.declared.asked.Told.{Told}
use Rattle.flow_bounds.specs.declared.asked.Told.TheVariants.{Nothing, Has, Lacks}

-- The column and the point are there.
pub record IsAskOf (selection : Selection) (ask : Ask) : Type 0 where
  pub column : ask.column < column_count selection
  pub point : ask.point < point_count selection.program

abbrev pub AreAsksOf : Selection → List Ask → Type 0
AreAsksOf selection asks = (i : ℕ) (ask : Ask) → slice_get asks i ≡ Some ask → IsAskOf selection ask

-- What is told is true: the column's bit is in the may form's set at the point, which is the meet over all valid paths there, or it is not.
abbrev pub IsTrueOf : Selection → Ask → Told → Type 0
IsTrueOf selection ask Nothing = Unit {0}
IsTrueOf selection ask Has = SomePathHas (may_shape selection.program selection.analysis) (column_transfer selection ask.column) ask.point
IsTrueOf selection ask Lacks =
    SomePathHas (may_shape selection.program selection.analysis) (column_transfer selection ask.column) ask.point → ⊥

-- Something true is told of each bit that is asked.
pub record AreToldOf (selection : Selection) (asks : List Ask) (told : List Told) : Type 0 where
  pub count : length told ≡ length asks
  pub each : (i : ℕ) (ask : Ask) → slice_get asks i ≡ Some ask → IsTrueOf selection ask (slice_index_or told i Nothing)
