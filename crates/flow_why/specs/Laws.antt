-- What a witness of an analysis says of the program itself.
use Rattle.std.specs.Prelude.{◌≡◌, ℕ, true, false, not, List}
use Rattle.tac_program.specs.Programs.{Program}
use Rattle.flow_graph.specs.Analyses.{shape_of, transfer_of, is_backward, is_must}
use Rattle.flow_graph.specs.declared.edge.Edge.{Edge}
use Rattle.flow_graph.specs.Paths.{IsValidPath, IsBackwardValidPath, value_after, value_before}
use Rattle.flow_graph.specs.Problems.{may_shape, may_transfer}
use Rattle.flow_graph.specs.Reversals.{reversed_path}
use Rattle.flow_graph.specs.declared.analysis.Analysis.{Analysis}
use Rattle.flow_why.specs.Witnesses.{IsWitness, Unfolds}
use Rattle.flow_why.specs.declared.hop.Hop.{Hop}

-- A witness of an analysis that goes forwards unfolds to valid paths of the program, which have the bit for reaching definitions, and
-- lack it for available expressions.
abbrev pub ForwardWitnessesAreOfPrograms : Type 0
ForwardWitnessesAreOfPrograms =
    (program : Program) (analysis : Analysis) (bit point : ℕ) (hops : List Hop) (path : List Edge) → is_backward analysis ≡ false
    → IsWitness (may_shape program analysis) (may_transfer program analysis bit) point hops
    → Unfolds (may_shape program analysis) (may_transfer program analysis bit) hops path
    → IsValidPath (shape_of program) path point
    × (value_after (transfer_of program analysis bit) path (transfer_of program analysis bit).boundary ≡ not (is_must analysis))

-- One of an analysis that goes backwards unfolds to paths that, walked backwards, are backward valid paths of the program: they have the
-- bit for live variables, and lack it for very busy expressions.
abbrev pub BackwardWitnessesAreOfPrograms : Type 0
BackwardWitnessesAreOfPrograms =
    (program : Program) (analysis : Analysis) (bit point : ℕ) (hops : List Hop) (path : List Edge) → is_backward analysis ≡ true
    → IsWitness (may_shape program analysis) (may_transfer program analysis bit) point hops
    → Unfolds (may_shape program analysis) (may_transfer program analysis bit) hops path
    → IsBackwardValidPath (shape_of program) (reversed_path path) point
    × (value_before (transfer_of program analysis bit) (reversed_path path) (transfer_of program analysis bit).boundary ≡ not (is_must analysis))
