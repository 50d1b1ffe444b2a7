use Rattle.std.proofs.Common.{refl}
use Rattle.flow_graph.specs.Examples.{recursive_procedure, through_recursion}
use Rattle.flow_graph.proofs.graphs.ExampleLemmas.{path_is}
use Rattle.graph_laws.proofs.examples.recursive_procedure_examples.Goals as goal

pub returns-clause-is_valid : goal.returns-clause-is_valid
returns-clause-is_valid c = (path_is recursive_procedure 0 through_recursion 6 refl, refl)
