-- How the search for where doubt comes from goes: backwards from endless points.
use Rattle.std.specs.Prelude.{◌≡◌, ◌↔◌, ◌⊎◌, ℕ, ◌<◌, Bool, true, false, List, Option, Some, None, Contains, get_or, length, map, is_some, if◌then◌else◌}
use Rattle.tac_program.specs.Programs.{Program}
use Rattle.flow_graph.specs.Analyses.{shape_of}
use Rattle.flow_graph.specs.Paths.{HasBackwardPath}
use Rattle.flow_graph.specs.Points.{point_count}
use Rattle.doubt_origins.specs.Origins.{origins_in}

-- one truth value for each point: whether it has no backward valid path
pub record TellEndless (program : Program) (endless : List Bool) : Type 0 where
  pub count : length endless ≡ point_count program
  pub each : (point : ℕ) → point < point_count program
      → (get_or endless point false ≡ true) ↔ ¬ (HasBackwardPath (shape_of program) point)

-- the point itself, where it is endless
abbrev pub own_origin : Bool → ℕ → Option ℕ
own_origin endless point = if endless then Some point else None

-- of which points it is known
abbrev pub known_in : List (Option ℕ) → List Bool
known_in origins = map is_some origins

-- What is told of a point was told before, or it is one of these points and this is told.
pub record AddsOrigin (points : List ℕ) (origin : ℕ) (old new : List (Option ℕ)) : Type 0 where
  pub count : length new ≡ length old
  pub each : (x o : ℕ) → origins_in new x ≡ Some o → (origins_in old x ≡ Some o) ⊎ (Contains points x × (o ≡ origin))
