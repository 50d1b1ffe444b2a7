-- Which points lead to marked ones through some points alone.
use Rattle.std.specs.Prelude.{◌≡◌, ◌↔◌, ◌<◌, ℕ, Bool, true, false, List, [], ◌∷◌, length, get_or}
use Rattle.flow_graph.specs.Analyses.{shape_of}
use Rattle.flow_graph.specs.Paths.{IsPath, target_of}
use Rattle.flow_graph.specs.Points.{point_count}
use Rattle.flow_graph.specs.declared.edge.Edge.{Edge}
use Rattle.tac_program.specs.Programs.{Program}

-- each point of a path that begins at this one is among these, the first and the last included
abbrev pub IsAmongAlong : List Bool → ℕ → List Edge → Type 0
IsAmongAlong among start [] = get_or among start false ≡ true
IsAmongAlong among start (edge ∷ path) = (get_or among start false ≡ true) × IsAmongAlong among (target_of edge) path

-- some path from the point through these points alone ends at a marked one; it may be the empty one
abbrev pub LeadsAmong : Program → List Bool → List Bool → ℕ → Type 0
LeadsAmong program among marked point =
    (path : List Edge) × (ahead : ℕ) × IsPath (shape_of program) point path ahead × IsAmongAlong among point path
    × (get_or marked ahead false ≡ true)

-- one truth value for each point: whether it leads to a marked one through these points alone
pub record TellLeadingAmong (program : Program) (among marked answers : List Bool) : Type 0 where
  pub count : length answers ≡ point_count program
  pub each : (point : ℕ) → point < point_count program → (get_or answers point false ≡ true) ↔ LeadsAmong program among marked point
