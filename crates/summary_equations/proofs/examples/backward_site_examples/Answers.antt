use Rattle.std.proofs.Common.{true, [], ◌∷◌, refl}
use Rattle.flow_graph.specs.declared.edge.Edge.TheVariants.{Call}
use Rattle.flow_graph.specs.Reversals.{reversed_shape, reversed_transfer}
use Rattle.flow_graph.specs.Examples.{two_prints, live_first, out_of_first_call}
use Rattle.flow_graph.proofs.graphs.ExampleLemmas.{is_one_of, path_is, well_formed_is}
use Rattle.summary_equations.proofs.paths.Backward.{backward_may_is_reversed}
use Rattle.summary_equations.proofs.solutions.ExampleLemmas.{not_in_solution}
use Rattle.summary_equations.proofs.examples.backward_site_examples.Goals as goal

pub returns-clause-before_first_call : goal.returns-clause-before_first_call
returns-clause-before_first_call c =
    let path = Call 0 0 5 ∷ out_of_first_call in
    (backward_may_is_reversed two_prints live_first 0 (well_formed_is two_prints refl)).1 (path, (path_is two_prints 0 path 4 refl, refl), refl)

pub returns-clause-in_callee : goal.returns-clause-in_callee
returns-clause-in_callee c =
    (backward_may_is_reversed two_prints live_first 5 (well_formed_is two_prints refl)).1
    (out_of_first_call, (path_is two_prints 5 out_of_first_call 4 refl, refl), refl)

pub returns-clause-not_before_second_call : goal.returns-clause-not_before_second_call
returns-clause-not_before_second_call c =
    not_in_solution (reversed_shape two_prints) (reversed_transfer live_first)
    (record { reached = λ n. true; preserved = λ n. true; generated = is_one_of (0 ∷ 1 ∷ []); entered = λ n. true; brought = is_one_of (1 ∷ []) })
    refl 2 refl refl
