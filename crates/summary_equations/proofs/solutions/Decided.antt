-- The meets are decided, since the least solution is
use Rattle.std.proofs.Common.{◌≡◌, ℕ, false, List, ◌⊎◌, ◌↔◌, inl, inr, sym, ◌∙◌}
use Rattle.std.proofs.lemmas.Bool.{not-true}
use Rattle.flow_graph.specs.declared.edge.Edge.{Edge}
use Rattle.flow_graph.specs.Paths.{Shape, Transfer, IsValidPath, IsBackwardValidPath, value_after, value_before, EveryPathHas, EveryBackwardPathHas}
use Rattle.flow_graph.specs.Paths.{SomePathHas, SomeBackwardPathHas}
use Rattle.flow_graph.specs.Reversals.{complemented_transfer, reversed_shape, reversed_transfer}
use Rattle.flow_graph.specs.WellFormed.{IsWellFormed}
use Rattle.flow_graph.proofs.paths.Complement.{value_after-complemented, value_before-complemented, meets_complement}
use Rattle.flow_graph.proofs.paths.Finishing.{has_backward_decided}
use Rattle.summary_equations.specs.Laws.{SolutionIsDecided, MeetsAreDecided, BackwardMeetsAreDecided}
use Rattle.summary_equations.proofs.paths.Meet.{solution_is_meet}
use Rattle.summary_equations.proofs.paths.Backward.{backward_may_is_reversed}
use Rattle.summary_equations.proofs.solutions.SolutionTests.{flag_decided, solution_decided}

pub either_iff : {A B : Type 0} → A ↔ B → A ⊎ (¬ A) → B ⊎ (¬ B)
either_iff e (inl a) = inl (e.0 a)
either_iff e (inr none) = inr (λ b. none (e.1 b))

pub solution_is_decided : SolutionIsDecided
solution_is_decided shape transfer point = (flag_decided shape point, solution_decided shape transfer point)

some_decided : (shape : Shape) (transfer : Transfer) (point : ℕ) → IsWellFormed shape
    → SomePathHas shape transfer point ⊎ (¬ (SomePathHas shape transfer point))
some_decided shape transfer point well = either_iff (solution_is_meet shape transfer point well).1 (solution_decided shape transfer point)

some_backward_decided : (shape : Shape) (transfer : Transfer) (point : ℕ) → IsWellFormed shape
    → SomeBackwardPathHas shape transfer point ⊎ (¬ (SomeBackwardPathHas shape transfer point))
some_backward_decided shape transfer point well =
    either_iff (backward_may_is_reversed shape transfer point well) (solution_decided (reversed_shape shape) (reversed_transfer transfer) point)

every_decided : (shape : Shape) (transfer : Transfer) (point : ℕ)
    → SomePathHas shape (complemented_transfer transfer) point ⊎ (¬ (SomePathHas shape (complemented_transfer transfer) point))
    → EveryPathHas shape transfer point ⊎ ((path : List Edge) × IsValidPath shape path point × (value_after transfer path transfer.boundary ≡ false))
every_decided shape transfer point (inl some) =
    inr (some.0, some.1, not-true _ (sym (value_after-complemented transfer some.0 transfer.boundary) ∙ some.2))
every_decided shape transfer point (inr none) = inl ((meets_complement shape transfer point).0.1 none)

every_backward_decided : (shape : Shape) (transfer : Transfer) (point : ℕ)
    → SomeBackwardPathHas shape (complemented_transfer transfer) point ⊎ (¬ (SomeBackwardPathHas shape (complemented_transfer transfer) point))
    → EveryBackwardPathHas shape transfer point
    ⊎ ((path : List Edge) × IsBackwardValidPath shape path point × (value_before transfer path transfer.boundary ≡ false))
every_backward_decided shape transfer point (inl some) =
    inr (some.0, some.1, not-true _ (sym (value_before-complemented transfer some.0 transfer.boundary) ∙ some.2))
every_backward_decided shape transfer point (inr none) = inl ((meets_complement shape transfer point).1.1 none)

pub meets_are_decided : MeetsAreDecided
meets_are_decided shape transfer point well = (
  either_iff (solution_is_meet shape transfer point well).0 (flag_decided shape point),
  some_decided shape transfer point well,
  every_decided shape transfer point (some_decided shape (complemented_transfer transfer) point well),
)

pub backward_meets_are_decided : BackwardMeetsAreDecided
backward_meets_are_decided shape transfer point well = (
  has_backward_decided shape well point,
  some_backward_decided shape transfer point well,
  every_backward_decided shape transfer point (some_backward_decided shape (complemented_transfer transfer) point well),
)
