-- The nearest point before one, in its procedure, to which a valid path leads.
use Rattle.std.specs.Prelude.{◌≡◌, ◌<◌, ◌≤◌, ◌+◌, ℕ}
use Rattle.tac_program.specs.Programs.{Program}
use Rattle.flow_graph.specs.Analyses.{shape_of}
use Rattle.flow_graph.specs.Paths.{HasPath}
use Rattle.flow_graph.specs.Points.{place_of, point_of, procedure_at}

-- the point at a place of a point's procedure
abbrev pub beside : Program → ℕ → ℕ → ℕ
beside program point place = point_of program (procedure_at program point) place

-- no valid path leads to the places of the point's procedure from one on, up to the point's own
abbrev pub NoneReachedFrom : Program → ℕ → ℕ → Type 0
NoneReachedFrom program point first =
    (place : ℕ) → first ≤ place → place < (place_of program point).place → ¬ (HasPath (shape_of program) (beside program point place))

-- It stands before the point in its procedure, a valid path leads to it, and none to those between the two.
pub record IsLastReached (program : Program) (point found : ℕ) : Type 0 where
  pub at : ℕ
  pub before : at < (place_of program point).place
  pub is : found ≡ beside program point at
  pub reached : HasPath (shape_of program) found
  pub nearest : NoneReachedFrom program point (at + 1)
