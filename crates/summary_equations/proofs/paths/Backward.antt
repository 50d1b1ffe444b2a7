-- Must and backward problems, by complement and reversal
use Rattle.std.proofs.Common.{false, ◌↔◌}
use Rattle.flow_graph.specs.Paths.{Transfer}
use Rattle.flow_graph.specs.Reversals.{complemented_transfer, reversed_shape, reversed_transfer}
use Rattle.flow_graph.proofs.paths.Complement.{meets_complement}
use Rattle.flow_graph.proofs.paths.Reversal.{meets_reverse, reversed_is_well_formed}
use Rattle.summary_equations.specs.Laws.{ForwardMustIsComplement, BackwardFlagsAreReversed, BackwardMayIsReversed, BackwardMustIsReversedComplement}
use Rattle.summary_equations.proofs.paths.Meet.{solution_is_meet}

iff_not : {A B : Type 0} → A ↔ B → (¬ A) ↔ (¬ B)
iff_not e = ((λ none b. none (e.1 b)), (λ none a. none (e.0 a)))

iff_sym : {A B : Type 0} → A ↔ B → B ↔ A
iff_sym e = (e.1, e.0)

iff_trans : {A B C : Type 0} → A ↔ B → B ↔ C → A ↔ C
iff_trans e f = ((λ a. f.0 (e.0 a)), (λ c. e.1 (f.1 c)))

pub forward_must_is_complement : ForwardMustIsComplement
forward_must_is_complement shape transfer point well =
    iff_trans (iff_not (solution_is_meet shape (complemented_transfer transfer) point well).1) (iff_sym (meets_complement shape transfer point).0)

no_bit : Transfer
no_bit = record { gen = λ x y. false; kill = λ x y. false; boundary = false }

pub backward_flags_are_reversed : BackwardFlagsAreReversed
backward_flags_are_reversed shape point well =
    iff_trans (solution_is_meet (reversed_shape shape) no_bit point (reversed_is_well_formed shape well)).0
    (iff_sym (meets_reverse shape no_bit point).0)

pub backward_may_is_reversed : BackwardMayIsReversed
backward_may_is_reversed shape transfer point well =
    iff_trans (solution_is_meet (reversed_shape shape) (reversed_transfer transfer) point (reversed_is_well_formed shape well)).1
    (iff_sym (meets_reverse shape transfer point).1)

pub backward_must_is_reversed_complement : BackwardMustIsReversedComplement
backward_must_is_reversed_complement shape transfer point well =
    iff_trans (iff_not (backward_may_is_reversed shape (complemented_transfer transfer) point well))
    (iff_sym (meets_complement shape transfer point).1)
