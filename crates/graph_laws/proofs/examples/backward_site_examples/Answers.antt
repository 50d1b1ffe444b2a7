use Rattle.std.proofs.Common.{◌∷◌, refl}
use Rattle.flow_graph.specs.declared.edge.Edge.TheVariants.{Call}
use Rattle.flow_graph.specs.Examples.{two_prints, out_of_first_call}
use Rattle.flow_graph.proofs.graphs.ExampleLemmas.{path_is}
use Rattle.graph_laws.proofs.examples.backward_site_examples.Goals as goal

pub returns-clause-out_is_valid : goal.returns-clause-out_is_valid
returns-clause-out_is_valid c = (path_is two_prints 5 out_of_first_call 4 refl, refl)

pub returns-clause-in_and_out_is_path : goal.returns-clause-in_and_out_is_path
returns-clause-in_and_out_is_path c = path_is two_prints 2 (Call 2 2 5 ∷ out_of_first_call) 4 refl
