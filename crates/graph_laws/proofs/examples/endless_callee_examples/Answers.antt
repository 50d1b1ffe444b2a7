use Rattle.std.proofs.Common.{[], ◌∷◌, refl}
use Rattle.flow_graph.specs.Examples.{endless_callee}
use Rattle.flow_graph.proofs.graphs.ExampleLemmas.{no_backward_path}
use Rattle.graph_laws.proofs.examples.endless_callee_examples.Goals as goal

pub returns-clause-none_before_call : goal.returns-clause-none_before_call
returns-clause-none_before_call c = no_backward_path endless_callee (0 ∷ 3 ∷ []) refl refl 0 refl

pub returns-clause-none_in_callee : goal.returns-clause-none_in_callee
returns-clause-none_in_callee c = no_backward_path endless_callee (3 ∷ []) refl refl 3 refl
