use Rattle.std.proofs.Common.{refl}
use Rattle.flow_graph.specs.Examples.{several_callees, through_first_callee, through_second_callee}
use Rattle.flow_graph.proofs.graphs.ExampleLemmas.{path_is}
use Rattle.graph_laws.proofs.examples.several_callees_examples.Goals as goal

pub returns-clause-first_is_valid : goal.returns-clause-first_is_valid
returns-clause-first_is_valid c = (path_is several_callees 0 through_first_callee 2 refl, refl)

pub returns-clause-second_is_valid : goal.returns-clause-second_is_valid
returns-clause-second_is_valid c = (path_is several_callees 0 through_second_callee 2 refl, refl)
