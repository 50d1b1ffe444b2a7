-- A point is doubtful where it leads to one that has no backward valid path
use Rattle.std.proofs.Common.{◌≡◌, ◌↔◌, ℕ, ◌<◌, Bool, true, false, not, List, [], ◌∷◌, map, get_or, refl, sym, ap, ◌∙◌, arith}
use Rattle.std.proofs.lemmas.List.FromFn.{get_or-map-range_with_len}
use Rattle.tac_program.specs.Programs.{Program}
use Rattle.tac_program.specs.Sound.{IsSound}
use Rattle.flow_graph.specs.Analyses.{HasPathAt, shape_of}
use Rattle.flow_graph.specs.Leading.{LeadsTo, TellLeading}
use Rattle.flow_graph.specs.Paths.{IsPath, HasBackwardPath, target_of}
use Rattle.flow_graph.specs.Points.{points, point_count}
use Rattle.flow_graph.specs.Runs.{IsDoubtful}
use Rattle.flow_graph.specs.declared.analysis.Analysis.TheVariants.{Live}
use Rattle.flow_graph.specs.declared.edge.Edge.{Edge}
use Rattle.flow_graph.proofs.graphs.GraphLaws.{edges_join_points}
use Rattle.flow_reports.specs.code.Findings.{TellDoubtful}

-- a path from a point ends at a point
path_ends : (program : Program) → IsSound program → (path : List Edge) (start finish : ℕ) → start < point_count program
    → IsPath (shape_of program) start path finish → finish < point_count program
path_ends program sound [] start finish below same = omega (arith, same)
path_ends program sound (edge ∷ path) start finish below along =
    path_ends program sound path (target_of edge) finish (edges_join_points program sound edge along.0).target along.2

pub tell_doubtful : (program : Program) (flag : ℕ → Bool) (marked answers : List Bool) → IsSound program
    → ((point : ℕ) → point < point_count program → (flag point ≡ true) ↔ HasPathAt program Live point)
    → marked ≡ map (λ point. not (flag point)) (points program) → TellLeading program marked answers → TellDoubtful program answers
tell_doubtful program flag marked answers sound is marks answered = record {
  count = answered.count;
  each = λ point below. (
    λ answer. doubts point below ((answered.each point below).0 answer),
    λ doubt. (answered.each point below).1 (leads point below doubt),
  );
}
  where
    mark : (point : ℕ) → point < point_count program → get_or marked point false ≡ not (flag point)
    mark point below =
        ap (λ ms. get_or ms point false) marks
        ∙ get_or-map-range_with_len (λ p. not (flag p)) 0 (point_count program) point point false below (omega arith)

    finishes : (point : ℕ) → point < point_count program → (flag point ≡ true) ↔ HasBackwardPath (shape_of program) point
    finishes point below = is point below

    not_true : (b : Bool) → not b ≡ true → b ≡ true → ⊥
    not_true true off on = absurd (cc off)
    not_true false off on = absurd (cc on)

    doubts : (point : ℕ) → point < point_count program → LeadsTo program marked point → IsDoubtful (shape_of program) point
    doubts point below (path, ahead, along, marked_there) =
        let there : ahead < point_count program = path_ends program sound path point ahead below along in
        (path, ahead, along, λ finish. not_true (flag ahead) (sym (mark ahead there) ∙ marked_there) ((finishes ahead there).1 finish))

    unmarked : (ahead : ℕ) → ahead < point_count program → ¬ (HasBackwardPath (shape_of program) ahead) → (b : Bool) → flag ahead ≡ b → not b ≡ true
    unmarked ahead there endless true known_true = absurd (endless ((finishes ahead there).0 known_true))
    unmarked ahead there endless false known_false = refl

    leads : (point : ℕ) → point < point_count program → IsDoubtful (shape_of program) point → LeadsTo program marked point
    leads point below (path, ahead, along, endless) =
        let there : ahead < point_count program = path_ends program sound path point ahead below along in
        (path, ahead, along, mark ahead there ∙ unmarked ahead there endless (flag ahead) refl)
