use Rattle.flow_graph.proofs.paths.Complement.{transfer_complement, values_complement, meets_complement, complement_of_reversed}
use Rattle.graph_laws.proofs.laws.transfers_complement.Goals as goal

pub returns-clause-transfer : goal.returns-clause-transfer
returns-clause-transfer c = transfer_complement

pub returns-clause-values : goal.returns-clause-values
returns-clause-values c = values_complement

pub returns-clause-reversed : goal.returns-clause-reversed
returns-clause-reversed c = complement_of_reversed

pub returns-clause-meets : goal.returns-clause-meets
returns-clause-meets c = meets_complement
