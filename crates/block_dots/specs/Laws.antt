-- Why the picture can be trusted: blocks are a partition, edges between them lead to leaders, and each block's sets meet the equation of the
-- textbook, which a reader can check.
use Rattle.std.specs.Prelude.{◌≡◌, ℕ, ◌<◌, Bool, true, false, not, ◌&&◌, ◌||◌, List, [], ◌∷◌, Contains, flat_map, length}
use Rattle.std.specs.List.{filter}
use Rattle.flow_graph.specs.Analyses.{is_backward}
use Rattle.flow_graph.specs.Edges.{edges_from}
use Rattle.flow_graph.specs.Paths.{target_of}
use Rattle.flow_graph.specs.Points.{point_count}
use Rattle.flow_graph.specs.Universes.{bits}
use Rattle.flow_graph.specs.declared.analysis.Analysis.{Analysis}
use Rattle.flow_graph.specs.declared.edge.Edge.{Edge}
use Rattle.flow_reports.specs.Reports.{IsKnowledge, Knowledge}
use Rattle.flow_views.specs.Views.{known_facts, points_in}
use Rattle.point_sets.specs.Sets.{has_behind, passes}
use Rattle.tac_program.specs.Programs.{Program}
use Rattle.tac_program.specs.Sound.{IsSound}
use Rattle.block_dots.specs.Blocks.{block_last, block_points, is_leader}
use Rattle.block_dots.specs.BlockSets.{block_set, exposed_down, exposed_up, kills_some}
use Rattle.block_dots.specs.declared.block_set.BlockSet.TheVariants.{Gen, Kill, In, Out}

-- What statements make of a bit, one after the other as control goes, and one before the other against it.
abbrev pub passed_down : Program → Analysis → List ℕ → ℕ → Bool → Bool
passed_down program analysis [] bit value = value
passed_down program analysis (point ∷ points) bit value = passed_down program analysis points bit (passes program analysis point bit value)

abbrev pub passed_up : Program → Analysis → List ℕ → ℕ → Bool → Bool
passed_up program analysis [] bit value = value
passed_up program analysis (point ∷ points) bit value = passes program analysis point bit (passed_up program analysis points bit value)

-- Gen and kill of statements in a row make of each set what the statements make of it.
abbrev pub StatementsCompose : Type 0
StatementsCompose =
    (program : Program) (analysis : Analysis) (points : List ℕ) (bit : ℕ) (value : Bool)
    → (passed_down program analysis points bit value
    ≡ (exposed_down program analysis points bit || (value && not (kills_some program analysis points bit))))
    × (passed_up program analysis points bit value
    ≡ (exposed_up program analysis points bit || (value && not (kills_some program analysis points bit))))

-- The blocks of a procedure have each of its points once, in their order.
abbrev pub BlocksHavePoints : Type 0
BlocksHavePoints =
    (program : Program) (procedure : ℕ) → procedure < length program.procedures
    → flat_map (block_points program) (filter (is_leader program) (points_in program procedure)) ≡ points_in program procedure

-- Control goes from a block to the first points of blocks.
abbrev pub EdgesLeadToLeaders : Type 0
EdgesLeadToLeaders =
    (program : Program) (leader : ℕ) → IsSound program → leader < point_count program → is_leader program leader ≡ true
    → (edge : Edge) → Contains (edges_from program (block_last program leader)) edge → is_leader program (target_of edge) ≡ true

-- OUT = gen ∪ (IN − kill) forwards and IN = gen ∪ (OUT − kill) backwards, at a block whose first point has a valid path in that direction. Then
-- each of its points has one.
abbrev pub equation : Bool → Program → Analysis → Knowledge → ℕ → ℕ → Type 0
equation backward program analysis known leader bit =
    let facts = known_facts known analysis in
    let gen = block_set Gen program analysis facts leader bit in
    let kill = block_set Kill program analysis facts leader bit in
    let first = block_set In program analysis facts leader bit in
    let last = block_set Out program analysis facts leader bit in
    elim backward [
      | true ↦ first ≡ (gen || (last && not kill))
      | false ↦ last ≡ (gen || (first && not kill))
    ]

abbrev pub BlocksMeetEquations : Type 0
BlocksMeetEquations =
    (program : Program) (analysis : Analysis) (known : Knowledge) (leader bit : ℕ) → IsSound program → IsKnowledge program known
    → leader < point_count program → is_leader program leader ≡ true → has_behind program leader ≡ true → bit < bits program analysis
    → (known_facts known analysis).has_path leader ≡ true
    → equation (is_backward analysis) program analysis known leader bit
