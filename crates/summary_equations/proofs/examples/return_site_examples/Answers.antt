use Rattle.std.proofs.Common.{true, ◌<◌, [], ◌∷◌, refl, arith, inl}
use Rattle.flow_graph.specs.declared.edge.Edge.TheVariants.{Step, Call, Ret}
use Rattle.flow_graph.specs.Examples.{two_calls, earlier_definition, later_definition}
use Rattle.flow_graph.proofs.graphs.ExampleLemmas.{edge_is, is_one_of, path_is, well_formed_is}
use Rattle.summary_equations.specs.Equations.{Reached, Generated, Preserved, entry_is_reached, reached_by_step, reached_by_call, preserved_at_entry, preserved_by_step}
use Rattle.summary_equations.specs.Equations.{generated_by_step, generated_before_call, root_is_entered}
use Rattle.summary_equations.proofs.solutions.ExampleLemmas.{not_in_solution}
use Rattle.summary_equations.proofs.paths.Meet.{solution_is_meet}
use Rattle.summary_equations.proofs.examples.return_site_examples.Goals as goal

pub returns-clause-later_after_second_call : goal.returns-clause-later_after_second_call
returns-clause-later_after_second_call c = let g = two_calls in
    let is_edge = edge_is g in
    let first : 0 < 2 = omega arith in
    let second : 1 < 2 = omega arith in
    let at_1 : Reached g 1 = reached_by_step 0 1 (is_edge (Step 0 1) refl) (entry_is_reached 0 first) in
    let at_8 : Reached g 8 = reached_by_step 7 8 (is_edge (Step 7 8) refl) (entry_is_reached 1 second) in
    let at_2 : Reached g 2 = reached_by_call 1 1 1 2 (second, is_edge (Call 1 1 7) refl) (is_edge (Ret 1 8 2) refl) at_1 at_8 in
    let at_3 : Reached g 3 = reached_by_step 2 3 (is_edge (Step 2 3) refl) at_2 in
    let at_4 : Reached g 4 = reached_by_step 3 4 (is_edge (Step 3 4) refl) at_3 in
    let call = is_edge (Call 4 4 7) refl in
    let return = is_edge (Ret 4 8 5) refl in
    let at_5 : Reached g 5 = reached_by_call 4 4 1 5 (second, call) return at_4 at_8 in
    let generated_4 : Generated g later_definition 4 = generated_by_step 3 4 (is_edge (Step 3 4) refl) at_3 refl in
    let preserved_8 : Preserved g later_definition.kill 8 =
    preserved_by_step 7 8 (is_edge (Step 7 8) refl) (entry_is_reached 1 second) (preserved_at_entry 1 second) refl in
    ((root_is_entered, at_5), inl (generated_before_call 4 4 1 5 (second, call) return at_4 at_8 generated_4 preserved_8))

pub returns-clause-later_not_after_first_call : goal.returns-clause-later_not_after_first_call
returns-clause-later_not_after_first_call c = not_in_solution two_calls later_definition
    (record { reached = λ n. true; preserved = λ n. true; generated = is_one_of (4 ∷ 5 ∷ 6 ∷ []); entered = λ n. true; brought = is_one_of (1 ∷ []) })
    refl 2 refl refl

pub returns-clause-earlier_after_first_call : goal.returns-clause-earlier_after_first_call
returns-clause-earlier_after_first_call c = let path = Step 0 1 ∷ Call 1 1 7 ∷ Step 7 8 ∷ Ret 1 8 2 ∷ [] in
    let well = well_formed_is two_calls refl in
    (solution_is_meet two_calls earlier_definition 2 well).1.1 (path, (path_is two_calls 0 path 2 refl, refl), refl)

pub returns-clause-earlier_not_after_second_call : goal.returns-clause-earlier_not_after_second_call
returns-clause-earlier_not_after_second_call c = not_in_solution two_calls earlier_definition (record {
  reached = λ n. true;
  preserved = is_one_of (0 ∷ 1 ∷ 2 ∷ 3 ∷ 7 ∷ 8 ∷ []);
  generated = is_one_of (1 ∷ 2 ∷ 3 ∷ []);
  entered = λ n. true;
  brought = is_one_of (1 ∷ []);
}) refl 5 refl refl

pub returns-clause-earlier_in_callee : goal.returns-clause-earlier_in_callee
returns-clause-earlier_in_callee c = let path = Step 0 1 ∷ Call 1 1 7 ∷ Step 7 8 ∷ [] in
    let well = well_formed_is two_calls refl in
    (solution_is_meet two_calls earlier_definition 8 well).1.1 (path, (path_is two_calls 0 path 8 refl, refl), refl)

pub returns-clause-later_in_callee : goal.returns-clause-later_in_callee
returns-clause-later_in_callee c = let path = Step 0 1 ∷ Call 1 1 7 ∷ Step 7 8 ∷ Ret 1 8 2 ∷ Step 2 3 ∷ Step 3 4 ∷ Call 4 4 7 ∷ Step 7 8 ∷ [] in
    let well = well_formed_is two_calls refl in
    (solution_is_meet two_calls later_definition 8 well).1.1 (path, (path_is two_calls 0 path 8 refl, refl), refl)
