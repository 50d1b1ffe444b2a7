-- Where the edges of a point begin.
use Rattle.std.proofs.Common.{◌≡◌, ℕ, ◌<◌, List, get_or, subst, sym}
use Rattle.std.specs.Prelude.{All}
use Rattle.std.proofs.lemmas.List.Elements.{All-contains_itself}
use Rattle.flow_graph.specs.Edges.{edges_from}
use Rattle.flow_graph.specs.Paths.{source_of}
use Rattle.flow_graph.specs.Points.{point_count}
use Rattle.flow_graph.specs.declared.edge.Edge.{Edge}
use Rattle.flow_graph.proofs.edges.EdgeLemmas.{edges_from_are, source_is}
use Rattle.tac_program.specs.Programs.{Program}
use Rattle.tac_program.specs.Sound.{IsSound}

-- each begins there
pub all_from : (program : Program) (point : ℕ) (edges : List Edge) → IsSound program → point < point_count program
    → edges ≡ edges_from program point → All (λ edge. source_of edge ≡ point) edges
all_from program point edges sound below is =
    subst (λ es. All (λ edge. source_of edge ≡ point) es) (sym is)
    (λ k d within. source_is program point (get_or (edges_from program point) k d) (edges_from_are program sound point
    (get_or (edges_from program point) k d) below (All-contains_itself (edges_from program point) k d within)))
