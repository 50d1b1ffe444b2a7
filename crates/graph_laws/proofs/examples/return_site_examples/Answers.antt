use Rattle.std.proofs.Common.{refl}
use Rattle.flow_graph.specs.Examples.{two_calls, right_return, wrong_return}
use Rattle.flow_graph.proofs.graphs.ExampleLemmas.{path_is}
use Rattle.graph_laws.proofs.examples.return_site_examples.Goals as goal

pub returns-clause-right_is_valid : goal.returns-clause-right_is_valid
returns-clause-right_is_valid c = (path_is two_calls 0 right_return 5 refl, refl)

pub returns-clause-wrong_is_path : goal.returns-clause-wrong_is_path
returns-clause-wrong_is_path c = path_is two_calls 0 wrong_return 2 refl
