use Rattle.std.proofs.Common.{refl}
use Rattle.flow_graph.specs.Examples.{recursive_main, into_main, through_main}
use Rattle.flow_graph.proofs.graphs.ExampleLemmas.{path_is}
use Rattle.graph_laws.proofs.examples.recursive_main_examples.Goals as goal

pub returns-clause-into_is_valid : goal.returns-clause-into_is_valid
returns-clause-into_is_valid c = (path_is recursive_main 0 into_main 0 refl, refl)

pub returns-clause-through_is_valid : goal.returns-clause-through_is_valid
returns-clause-through_is_valid c = (path_is recursive_main 0 through_main 3 refl, refl)

pub returns-clause-through_is_matched : goal.returns-clause-through_is_matched
returns-clause-through_is_matched c = (path_is recursive_main 0 through_main 3 refl, refl)
