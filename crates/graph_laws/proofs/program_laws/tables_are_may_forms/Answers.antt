use Rattle.flow_graph.proofs.graphs.MayForms.{flags_are_may_forms, may_tables_are_may_forms, must_tables_are_may_forms, steps_have_statements}
use Rattle.graph_laws.proofs.program_laws.tables_are_may_forms.Goals as goal

pub returns-clause-flags : goal.returns-clause-flags
returns-clause-flags c = flags_are_may_forms

pub returns-clause-may : goal.returns-clause-may
returns-clause-may c = may_tables_are_may_forms

pub returns-clause-must : goal.returns-clause-must
returns-clause-must c = must_tables_are_may_forms

pub returns-clause-steps : goal.returns-clause-steps
returns-clause-steps c = steps_have_statements
