-- Bounds of the least solution of the summary equations at one bit.
--
-- Values are a test for each family of the equations. Values that are closed under the clauses lie above the least solution, since it is
-- the least that is closed (Kildall 1973); what follows by the clauses lies below it. Where two bounds agree at a point, they tell what
-- the solution has there, and nobody has to solve the equations for that bit.
use Rattle.std.specs.Prelude.{ℕ, Bool, ◌&&◌, ◌||◌}
use Rattle.flow_graph.specs.Paths.{Shape, Transfer}
use Rattle.summary_equations.specs.Equations.{Reached, Preserved, Generated, Entered, Brought, IsClosedReached, IsClosedPreserved, IsClosedGenerated}
use Rattle.summary_equations.specs.Equations.{IsClosedEntered, IsClosedBrought}
use Rattle.summary_equations.specs.Laws.{Passes}

-- The values of one bit: which points are reached, preserve it and generate it, which procedures are entered, and to which it is brought.
pub record Values : Type 0 where
  pub reached : ℕ → Bool
  pub preserved : ℕ → Bool
  pub generated : ℕ → Bool
  pub entered : ℕ → Bool
  pub brought : ℕ → Bool

-- whether the bit is in the set of a point by these values, as `IsInSolution` has it of the least solution
abbrev pub is_in_values : Shape → Values → ℕ → Bool
is_in_values shape values point =
    (values.entered (shape.procedure_of point) && values.reached point)
    && (values.generated point || (values.brought (shape.procedure_of point) && values.preserved point))

-- Values above the least solution: what holds there passes.
pub record IsUpperBound (shape : Shape) (transfer : Transfer) (values : Values) : Type 0 where
  pub reached : (x : ℕ) → Reached shape x → Passes values.reached x
  pub preserved : (x : ℕ) → Preserved shape transfer.kill x → Passes values.preserved x
  pub generated : (x : ℕ) → Generated shape transfer x → Passes values.generated x
  pub entered : (procedure : ℕ) → Entered shape procedure → Passes values.entered procedure
  pub brought : (procedure : ℕ) → Brought shape transfer procedure → Passes values.brought procedure

-- Values below the least solution: what passes holds there.
pub record IsLowerBound (shape : Shape) (transfer : Transfer) (values : Values) : Type 0 where
  pub reached : (x : ℕ) → Passes values.reached x → Reached shape x
  pub preserved : (x : ℕ) → Passes values.preserved x → Preserved shape transfer.kill x
  pub generated : (x : ℕ) → Passes values.generated x → Generated shape transfer x
  pub entered : (procedure : ℕ) → Passes values.entered procedure → Entered shape procedure
  pub brought : (procedure : ℕ) → Passes values.brought procedure → Brought shape transfer procedure

-- Values that are closed under the clauses of the equations.
pub record AreClosed (shape : Shape) (transfer : Transfer) (values : Values) : Type 0 where
  pub reached : IsClosedReached shape (Passes values.reached)
  pub preserved : IsClosedPreserved shape transfer.kill (Passes values.reached) (Passes values.preserved)
  pub generated : IsClosedGenerated shape transfer (Passes values.reached) (Passes values.preserved) (Passes values.generated)
  pub entered : IsClosedEntered shape (Passes values.reached) (Passes values.entered)
  pub brought : IsClosedBrought shape transfer (Passes values.reached) (Passes values.preserved) (Passes values.generated) (Passes values.entered)
      (Passes values.brought)
