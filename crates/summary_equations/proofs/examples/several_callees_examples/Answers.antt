use Rattle.std.proofs.Common.{true, false, [], ◌∷◌, refl}
use Rattle.flow_graph.specs.Examples.{several_callees, outer_definition, inner_of_first, through_first_callee, through_second_callee}
use Rattle.flow_graph.proofs.graphs.ExampleLemmas.{is_one_of, path_is, well_formed_is}
use Rattle.summary_equations.proofs.paths.Meet.{solution_is_meet}
use Rattle.summary_equations.proofs.solutions.ExampleLemmas.{not_in_solution}
use Rattle.summary_equations.proofs.examples.several_callees_examples.Goals as goal

pub returns-clause-outer_after_call : goal.returns-clause-outer_after_call
returns-clause-outer_after_call c =
    let well = well_formed_is several_callees refl in
    (solution_is_meet several_callees outer_definition 2 well).1.1
    (through_second_callee, (path_is several_callees 0 through_second_callee 2 refl, refl), refl)

pub returns-clause-outer_not_after_inner : goal.returns-clause-outer_not_after_inner
returns-clause-outer_not_after_inner c =
    not_in_solution several_callees outer_definition
    (record {
      reached = λ n. true;
      preserved = is_one_of (0 ∷ 1 ∷ 2 ∷ 3 ∷ 4 ∷ 6 ∷ 7 ∷ []);
      generated = is_one_of (1 ∷ 2 ∷ 3 ∷ []);
      entered = λ n. true;
      brought = λ n. true;
    })
    refl 5 refl refl

pub returns-clause-inner_after_call : goal.returns-clause-inner_after_call
returns-clause-inner_after_call c =
    let well = well_formed_is several_callees refl in
    (solution_is_meet several_callees inner_of_first 2 well).1.1
    (through_first_callee, (path_is several_callees 0 through_first_callee 2 refl, refl), refl)

pub returns-clause-inner_not_in_second : goal.returns-clause-inner_not_in_second
returns-clause-inner_not_in_second c =
    not_in_solution several_callees inner_of_first
    (record { reached = λ n. true; preserved = λ n. true; generated = is_one_of (2 ∷ 3 ∷ 5 ∷ []); entered = λ n. true; brought = λ n. false })
    refl 7 refl refl
