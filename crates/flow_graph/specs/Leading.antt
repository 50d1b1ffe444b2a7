-- Which points lead to marked ones.
use Rattle.std.specs.Prelude.{◌≡◌, ◌↔◌, ◌<◌, ℕ, Bool, true, false, List, length, get_or}
use Rattle.tac_program.specs.Programs.{Program}
use Rattle.flow_graph.specs.Analyses.{shape_of}
use Rattle.flow_graph.specs.Paths.{Edge, IsPath}
use Rattle.flow_graph.specs.Points.{point_count}

-- some path from the point ends at a marked point; it may be the empty one
abbrev pub LeadsTo : Program → List Bool → ℕ → Type 0
LeadsTo program marked point =
    (path : List Edge) × (ahead : ℕ) × IsPath (shape_of program) point path ahead × (get_or marked ahead false ≡ true)

-- one truth value for each point: whether it leads to a marked one
pub record TellLeading (program : Program) (marked answers : List Bool) : Type 0 where
  pub count : length answers ≡ point_count program
  pub each : (point : ℕ) → point < point_count program → (get_or answers point false ≡ true) ↔ LeadsTo program marked point
