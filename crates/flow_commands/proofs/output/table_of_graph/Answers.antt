use Rattle.std.proofs.Common.{subst}
use Rattle.flow_graph.specs.declared.analysis.Analysis.{Analysis}
use Rattle.flow_texts.specs.Tables.{IsTableText}
use Rattle.flow_runs.proofs.deliveries.Deliveries.{delivers_as}
use Rattle.flow_commands.proofs.output.table_of_graph.Goals as goal

pub returns-clause-delivers : goal.returns-clause-delivers
returns-clause-delivers g c =
    delivers_as _ _ _ _ c.push_table.result
    (λ out is. subst (λ (a : Analysis). IsTableText c.args.graph.now a out) c.in_ok-table.ensures.analysis is)
    c.push_table.ensures.delivers
