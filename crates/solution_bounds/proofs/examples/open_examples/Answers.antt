use Rattle.std.proofs.Common.{true, [], ◌∷◌, refl}
use Rattle.summary_equations.proofs.solutions.ExampleLemmas.{not_in_solution}
use Rattle.solution_bounds.specs.Examples.{nested_calls, among, killed_definition, killed_above}
use Rattle.solution_bounds.proofs.bounds.NestedCalls.{is_well_formed}
use Rattle.solution_bounds.proofs.quotients.ExampleTests.{quotient_above}
use Rattle.solution_bounds.proofs.examples.open_examples.Goals as goal

pub returns-clause-upper : goal.returns-clause-upper
returns-clause-upper c = quotient_above nested_calls killed_definition killed_above is_well_formed refl

pub returns-clause-not_after_call : goal.returns-clause-not_after_call
returns-clause-not_after_call c = not_in_solution nested_calls killed_definition (record {
  reached = λ n. true;
  preserved = among (0 ∷ 1 ∷ 3 ∷ 5 ∷ []);
  generated = among (1 ∷ []);
  entered = λ n. true;
  brought = among (1 ∷ 2 ∷ []);
}) refl 2 refl refl
