use Rattle.std.proofs.Common.{ℕ, ◌<◌, [], ◌∷◌, refl, arith}
use Rattle.summary_equations.specs.Equations.{Preserved, Generated}
use Rattle.summary_equations.specs.Laws.{Passes}
use Rattle.solution_bounds.specs.Examples.{nested_calls, among, beginning_value}
use Rattle.solution_bounds.specs.Witnesses.{way_begins, way_by_step, Hangs, hangs_by_boundary, hangs_by_call, IsTree}
use Rattle.solution_bounds.proofs.bounds.NestedCalls.{is_well_formed, into_p, into_q, first_step, step_of_q, each}
use Rattle.solution_bounds.proofs.witnesses.Ways.{trees_bring, trees_reach_points}
use Rattle.solution_bounds.proofs.examples.tree_examples.Goals as goal

abbrev Hanging : ℕ → Type 0
Hanging p = Hangs nested_calls beginning_value (among []) (among []) (λ r. Passes (among (0 ∷ 1 ∷ 2 ∷ [])) r × (r < p)) p

-- each procedure hangs by its caller
hanging : IsTree nested_calls beginning_value (among []) (among []) (among (0 ∷ 1 ∷ 2 ∷ [])) (λ p. p)
hanging = each Hanging (0 ∷ 1 ∷ 2 ∷ []) (
  hangs_by_boundary refl,
  (
    hangs_by_call 1 1 1 into_p (refl, omega arith) (way_by_step 0 1 first_step refl way_begins),
    (hangs_by_call 3 3 2 into_q (refl, omega arith) way_begins, tt),
  ),
)

pub returns-clause-brought : goal.returns-clause-brought
returns-clause-brought c = (trees_bring nested_calls beginning_value (among []) (among []) (among (0 ∷ 1 ∷ 2 ∷ [])) (λ p. p) is_well_formed
    (each (λ p. Preserved nested_calls beginning_value.kill (nested_calls.exit p)) [] tt) (each (Generated nested_calls beginning_value) [] tt) hanging 2 refl).1

pub returns-clause-at_end : goal.returns-clause-at_end
returns-clause-at_end c = trees_reach_points nested_calls beginning_value (among []) (among []) (among (0 ∷ 1 ∷ 2 ∷ [])) (λ p. p) 6 is_well_formed
    (each (λ p. Preserved nested_calls beginning_value.kill (nested_calls.exit p)) [] tt) (each (Generated nested_calls beginning_value) [] tt) hanging refl
    (way_by_step 5 6 step_of_q refl way_begins)
