use Rattle.std.proofs.Common.{true, false, [], ◌∷◌, refl}
use Rattle.flow_graph.specs.declared.edge.Edge.TheVariants.{Step}
use Rattle.flow_graph.specs.Examples.{recursive_procedure, inner_definition, through_recursion, recursive_main, only_definition, into_main}
use Rattle.flow_graph.specs.Examples.{value_at_entry}
use Rattle.flow_graph.proofs.graphs.ExampleLemmas.{is_one_of, path_is, well_formed_is}
use Rattle.summary_equations.proofs.solutions.ExampleLemmas.{not_in_solution}
use Rattle.summary_equations.proofs.paths.Meet.{solution_is_meet}
use Rattle.summary_equations.proofs.examples.recursion_examples.Goals as goal

pub returns-clause-inner_after_inner_call : goal.returns-clause-inner_after_inner_call
returns-clause-inner_after_inner_call c = let well = well_formed_is recursive_procedure refl in
    (solution_is_meet recursive_procedure inner_definition 6 well).1.1
    (through_recursion, (path_is recursive_procedure 0 through_recursion 6 refl, refl), refl)

pub returns-clause-inner_not_before_inner_call : goal.returns-clause-inner_not_before_inner_call
returns-clause-inner_not_before_inner_call c = not_in_solution recursive_procedure inner_definition
    (record { reached = λ n. true; preserved = λ n. true; generated = is_one_of (2 ∷ 3 ∷ 6 ∷ 7 ∷ []); entered = λ n. true; brought = λ n. false })
    refl 5 refl refl

pub returns-clause-definition_at_beginning : goal.returns-clause-definition_at_beginning
returns-clause-definition_at_beginning c = let well = well_formed_is recursive_main refl in
    (solution_is_meet recursive_main only_definition 0 well).1.1 (into_main, (path_is recursive_main 0 into_main 0 refl, refl), refl)

pub returns-clause-entry_value_after_test : goal.returns-clause-entry_value_after_test
returns-clause-entry_value_after_test c = let path = Step 0 3 ∷ [] in
    let well = well_formed_is recursive_main refl in
    (solution_is_meet recursive_main value_at_entry 3 well).1.1 (path, (path_is recursive_main 0 path 3 refl, refl), refl)

pub returns-clause-entry_value_not_before_call : goal.returns-clause-entry_value_not_before_call
returns-clause-entry_value_not_before_call c = not_in_solution recursive_main value_at_entry
    (record { reached = λ n. true; preserved = is_one_of (0 ∷ 1 ∷ 3 ∷ 4 ∷ []); generated = λ n. false; entered = λ n. true; brought = is_one_of (0 ∷ []) })
    refl 2 refl refl
