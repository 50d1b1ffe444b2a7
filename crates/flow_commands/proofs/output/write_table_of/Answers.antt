use Rattle.std.proofs.Common.{subst}
use Rattle.flow_texts.specs.Tables.{IsTableText}
use Rattle.tac_program.specs.Programs.{Program}
use Rattle.flow_runs.specs.Runs.{IsOverLimit}
use Rattle.tac_program.specs.declared.limits.Limits.TheVariants.{Standard}
use Rattle.flow_runs.proofs.deliveries.Deliveries.{delivers_as, no_graph_fault}
use Rattle.flow_commands.proofs.output.write_table_of.Goals as goal

pub returns-clause-delivers : goal.returns-clause-delivers
returns-clause-delivers g c =
    let made = c.in_ok-graph.ensures in
    delivers_as _ _ _ _ c.table_of_graph.result
    (λ out is. (made.few_points, made.few_bits, subst (λ (p : Program). IsTableText p c.args.analysis out) made.graph is))
    c.table_of_graph.ensures.delivers

pub returns-clause-fault : goal.returns-clause-fault
returns-clause-fault g c = no_graph_fault (IsOverLimit Standard c.args.program.now) ⊥ ⊥ ⊥ c.table_of_graph.result (λ no. no) c.table_of_graph.ensures.fault
