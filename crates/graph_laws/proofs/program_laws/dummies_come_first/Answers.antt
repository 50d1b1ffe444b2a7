use Rattle.flow_graph.proofs.bits.Dummies.{dummies_have_numbers}
use Rattle.graph_laws.proofs.program_laws.dummies_come_first.Goals as goal

pub returns : goal.returns
returns c = dummies_have_numbers
