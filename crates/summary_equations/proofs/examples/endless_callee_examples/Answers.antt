use Rattle.std.proofs.Common.{true, false, ◌<◌, [], ◌∷◌, refl, arith, inr}
use Rattle.flow_graph.specs.declared.edge.Edge.TheVariants.{Step, Call}
use Rattle.flow_graph.specs.Reversals.{reversed_shape, reversed_transfer, complemented_transfer}
use Rattle.flow_graph.specs.Examples.{endless_callee, sum_expression}
use Rattle.flow_graph.proofs.graphs.ExampleLemmas.{edge_is, is_one_of}
use Rattle.summary_equations.specs.Equations.{Reached, entry_is_reached, preserved_at_entry, reached_by_step, root_is_entered, entered_by_call}
use Rattle.summary_equations.specs.Equations.{brought_by_boundary}
use Rattle.summary_equations.proofs.solutions.ExampleLemmas.{no_flag, not_in_solution}
use Rattle.summary_equations.proofs.examples.endless_callee_examples.Goals as goal

pub returns-clause-callee_has_flag : goal.returns-clause-callee_has_flag
returns-clause-callee_has_flag c = let first : 0 < 2 = omega arith in
    let second : 1 < 2 = omega arith in
    (entered_by_call 0 0 1 (second, edge_is endless_callee (Call 0 0 3) refl) root_is_entered (entry_is_reached 0 first), entry_is_reached 1 second)

pub returns-clause-after_call_has_none : goal.returns-clause-after_call_has_none
returns-clause-after_call_has_none c = no_flag endless_callee
    (record { reached = is_one_of (0 ∷ 3 ∷ []); preserved = λ n. true; generated = λ n. true; entered = λ n. true; brought = λ n. true }) refl 1 refl

pub returns-clause-available_without_path : goal.returns-clause-available_without_path
returns-clause-available_without_path c = λ member. no_flag endless_callee
    (record { reached = is_one_of (0 ∷ 3 ∷ []); preserved = λ n. true; generated = λ n. true; entered = λ n. true; brought = λ n. true }) refl 1 refl member.0

pub returns-clause-not_available_at_beginning : goal.returns-clause-not_available_at_beginning
returns-clause-not_available_at_beginning c = let first : 0 < 2 = omega arith in
    ((root_is_entered, entry_is_reached 0 first), inr (brought_by_boundary refl, preserved_at_entry 0 first))

pub returns-clause-no_backward_flag : goal.returns-clause-no_backward_flag
returns-clause-no_backward_flag c = no_flag (reversed_shape endless_callee)
    (record { reached = is_one_of (1 ∷ 2 ∷ 4 ∷ []); preserved = λ n. true; generated = λ n. true; entered = λ n. true; brought = λ n. true }) refl 0 refl

pub returns-clause-backward_flag : goal.returns-clause-backward_flag
returns-clause-backward_flag c = let first : 0 < 2 = omega arith in
    let second : 1 < 2 = omega arith in
    let g = reversed_shape endless_callee in
    let at_1 : Reached g 1 = reached_by_step 2 1 (edge_is g (Step 2 1) refl) (entry_is_reached 0 first) in
    (entered_by_call 0 1 1 (second, edge_is g (Call 0 1 4) refl) root_is_entered at_1, entry_is_reached 1 second)

pub returns-clause-busy_without_path : goal.returns-clause-busy_without_path
returns-clause-busy_without_path c = λ member. no_flag (reversed_shape endless_callee)
    (record { reached = is_one_of (1 ∷ 2 ∷ 4 ∷ []); preserved = λ n. true; generated = λ n. true; entered = λ n. true; brought = λ n. true })
    refl 0 refl member.0

pub returns-clause-busy_after_call : goal.returns-clause-busy_after_call
returns-clause-busy_after_call c =
    not_in_solution (reversed_shape endless_callee) (complemented_transfer (reversed_transfer sum_expression)) (record {
      reached = is_one_of (1 ∷ 2 ∷ 4 ∷ []);
      preserved = is_one_of (2 ∷ 4 ∷ []);
      generated = λ n. false;
      entered = λ n. true;
      brought = is_one_of (0 ∷ []);
    }) refl 1 refl refl

pub returns-clause-busy_in_callee : goal.returns-clause-busy_in_callee
returns-clause-busy_in_callee c = not_in_solution (reversed_shape endless_callee) (complemented_transfer (reversed_transfer sum_expression)) (record {
  reached = is_one_of (1 ∷ 2 ∷ 4 ∷ []);
  preserved = is_one_of (2 ∷ 4 ∷ []);
  generated = λ n. false;
  entered = λ n. true;
  brought = is_one_of (0 ∷ []);
}) refl 4 refl refl

pub returns-clause-not_busy_at_end : goal.returns-clause-not_busy_at_end
returns-clause-not_busy_at_end c = let first : 0 < 2 = omega arith in
    ((root_is_entered, entry_is_reached 0 first), inr (brought_by_boundary refl, preserved_at_entry 0 first))
