-- Witnesses of an analysis are of the program itself
use Rattle.std.proofs.Common.{◌≡◌, Bool, true, false, not, List, sym, ◌∙◌, ap}
use Rattle.std.proofs.lemmas.Bool.{not-true}
use Rattle.flow_graph.specs.Analyses.{shape_of, transfer_of}
use Rattle.flow_graph.specs.declared.edge.Edge.{Edge}
use Rattle.flow_graph.specs.Paths.{Transfer, value_after, value_before}
use Rattle.flow_graph.specs.Reversals.{reversed_path, reversed_transfer, complemented_transfer}
use Rattle.flow_graph.specs.declared.analysis.Analysis.TheVariants.{Reach, Live, Avail, Busy}
use Rattle.flow_graph.proofs.paths.Complement.{value_after-complemented}
use Rattle.flow_graph.proofs.paths.Reversal.{valid_back, value_after-reversed, reversed_path-twice}
use Rattle.flow_why.specs.Laws.{BackwardWitnessesAreOfPrograms, ForwardWitnessesAreOfPrograms}

-- a path that has a bit in the complemented problem lacks it in the problem
lacks : (transfer : Transfer) (path : List Edge) → value_after (complemented_transfer transfer) path (not transfer.boundary) ≡ true
    → value_after transfer path transfer.boundary ≡ false
lacks transfer path has = not-true _ (sym (value_after-complemented transfer path transfer.boundary) ∙ has)

pub forward_witnesses_are_of_programs : ForwardWitnessesAreOfPrograms
forward_witnesses_are_of_programs program Reach bit point hops path forward witness is = (witness.valid path is, witness.has path is)
forward_witnesses_are_of_programs program Avail bit point hops path forward witness is =
    (witness.valid path is, lacks (transfer_of program Avail bit) path (witness.has path is))
forward_witnesses_are_of_programs program Live bit point hops path forward witness is = absurd (cc forward)
forward_witnesses_are_of_programs program Busy bit point hops path forward witness is = absurd (cc forward)

-- the value of a path of the reversed problem, walked backwards
back_value : (transfer : Transfer) (path : List Edge) (value : Bool)
    → value_before transfer (reversed_path path) value ≡ value_after (reversed_transfer transfer) path value
back_value transfer path value =
    sym (value_after-reversed transfer (reversed_path path) value) ∙ ap (λ p. value_after (reversed_transfer transfer) p value)
    (reversed_path-twice path)

pub backward_witnesses_are_of_programs : BackwardWitnessesAreOfPrograms
backward_witnesses_are_of_programs program Live bit point hops path backward witness is = (
  valid_back (shape_of program) path point (witness.valid path is),
  back_value (transfer_of program Live bit) path _ ∙ witness.has path is,
)
backward_witnesses_are_of_programs program Busy bit point hops path backward witness is = (
  valid_back (shape_of program) path point (witness.valid path is),
  back_value (transfer_of program Busy bit) path _ ∙ lacks (reversed_transfer (transfer_of program Busy bit)) path (witness.has path is),
)
backward_witnesses_are_of_programs program Reach bit point hops path backward witness is = absurd (cc backward)
backward_witnesses_are_of_programs program Avail bit point hops path backward witness is = absurd (cc backward)
