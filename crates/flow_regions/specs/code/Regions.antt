-- The procedures inside a region, their points, and what statements there do with the bits of some columns.
use Rattle.std.specs.Prelude.{◌≡◌, ◌<◌, ℕ, Bool, true, false, List, length, slice_index, slice_index_or}
use Rattle.bit_rows.specs.Words.{has_bit}
use Rattle.flow_graph.specs.Paths.{Shape}
use Rattle.flow_graph.specs.Points.{point_count}
use Rattle.flow_links.specs.Shapes.{LinkedProgram, directed_shape}
use Rattle.flow_regions.specs.code.Lists.{AreLists, AreLow, Has}
use Rattle.flow_regions.specs.declared.lists.Lists.{Lists}
use Rattle.gen_kill.specs.Selections.{IsColumnAffected, Selection}

-- the point's procedure is inside
abbrev pub IsIn : Shape → List Bool → ℕ → Type 0
IsIn shape inside x = slice_index_or inside (shape.procedure_of x) false ≡ true

-- Nothing is taken out.
abbrev pub StaysIn : List Bool → List Bool → Type 0
StaysIn old new = (p : ℕ) → slice_index_or old p false ≡ true → slice_index_or new p false ≡ true

-- a point has its place
pub record IsPlaced (points places : List ℕ) (x : ℕ) : Type 0 where
  pub low : slice_index places x < length points
  pub there : slice_index points (slice_index places x) ≡ x

-- So it is of the points inside of procedures below one; and only points inside have places.
pub record ArePlaced (shape : Shape) (inside : List Bool) (count until : ℕ) (points places : List ℕ) : Type 0 where
  pub size : length places ≡ count
  pub placed : (x : ℕ) → x < count → shape.procedure_of x < until → IsIn shape inside x → IsPlaced points places x
  pub within : (i : ℕ) → i < length points → (slice_index points i < count) × IsIn shape inside (slice_index points i)

-- The points that touch one of the columns are inside.
abbrev pub HoldsTouched : Selection → Shape → List ℕ → List Bool → ℕ → Type 0
HoldsTouched selection shape columns inside points = (k x : ℕ) → k < length columns → x < points
    → IsColumnAffected selection x (slice_index columns k) → IsIn shape inside x

-- Of the first columns, at the points inside, words have exactly the bits that are generated, or killed.
abbrev pub TellsTest : Shape → List Bool → ℕ → List ℕ → List ℕ → ℕ → (ℕ → ℕ → Bool) → List ℕ → Type 0
TellsTest shape inside points places columns until test words = (x k : ℕ) → x < points → IsIn shape inside x → k < until
    → has_bit (slice_index words (slice_index places x)) k ≡ test x (slice_index columns k)

-- all numbers below a count, in some order
pub record AreAllBelow (count : ℕ) (numbers : List ℕ) : Type 0 where
  pub size : length numbers ≡ count
  pub low : AreLow count numbers
  pub each : (x : ℕ) → x < count → (j : ℕ) × (j < length numbers) × (slice_index numbers j ≡ x)

-- by procedure its points
pub record ArePointsOf (linked : LinkedProgram) (table : Lists) : Type 0 where
  pub lists : AreLists (directed_shape linked).procedures table
  pub count : length table.values.items ≡ point_count linked.program
  pub low : AreLow (point_count linked.program) table.values.items
  pub each : (x : ℕ) → x < point_count linked.program → Has table ((directed_shape linked).procedure_of x) x
