-- The edges that the code keeps for the points of part 1.
use Rattle.std.specs.Prelude.{◌≡◌, ℕ, List, map}
use Rattle.flow_graph.specs.Edges.{edges_from}
use Rattle.flow_graph.specs.Points.{points}
use Rattle.flow_graph.specs.declared.edge.Edge.{Edge}
use Rattle.flow_views.specs.code.ViewProgram.{contents}
use Rattle.smallvec.specs.SmallVec.{SmallVec}
use Rattle.tac_program.specs.Programs.{Program}

-- Of part 1 there is a list for each point, of the edges out of it.
abbrev pub HasEdges : Program → (part : ℕ) → List (SmallVec Edge) → Type 0
HasEdges program part lists = part ≡ 1 → contents lists ≡ map (edges_from program) (points program)
