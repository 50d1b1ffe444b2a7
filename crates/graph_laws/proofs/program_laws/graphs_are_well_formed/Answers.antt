use Rattle.flow_graph.proofs.graphs.GraphLaws.{graphs_are_well_formed, may_forms_are_well_formed, calls_of_programs_return, calls_return_behind_sites}
use Rattle.flow_graph.proofs.graphs.GraphLaws.{returns_have_calls_at_sites}
use Rattle.graph_laws.proofs.program_laws.graphs_are_well_formed.Goals as goal

pub returns-clause-graph : goal.returns-clause-graph
returns-clause-graph c = graphs_are_well_formed

pub returns-clause-may_forms : goal.returns-clause-may_forms
returns-clause-may_forms c = may_forms_are_well_formed

pub returns-clause-returns : goal.returns-clause-returns
returns-clause-returns c = calls_of_programs_return

pub returns-clause-behind : goal.returns-clause-behind
returns-clause-behind c = calls_return_behind_sites

pub returns-clause-at : goal.returns-clause-at
returns-clause-at c = returns_have_calls_at_sites
