use Rattle.std.proofs.Common.{subst}
use Rattle.flow_reports.specs.Reports.{IsReport, ListsSafely}
use Rattle.tac_program.specs.Programs.{Program}
use Rattle.flow_runs.specs.Runs.{IsOverLimit}
use Rattle.tac_program.specs.declared.limits.Limits.TheVariants.{Standard}
use Rattle.flow_runs.proofs.deliveries.Deliveries.{delivers_as, no_graph_fault}
use Rattle.flow_commands.proofs.output.write_report.Goals as goal

pub returns-clause-delivers : goal.returns-clause-delivers
returns-clause-delivers g c =
    let made = c.in_ok-graph.ensures in
    delivers_as _ _ _ _ c.push_report.result
    (λ out is. (
      made.few_points,
      made.few_bits,
      subst (λ (p : Program). IsReport p out) made.graph is.0,
      subst (λ (p : Program). ListsSafely p out) made.graph is.1,
    ))
    c.push_report.ensures.delivers

pub returns-clause-fault : goal.returns-clause-fault
returns-clause-fault g c = no_graph_fault (IsOverLimit Standard c.args.program.now) ⊥ ⊥ ⊥ c.push_report.result (λ no. no) c.push_report.ensures.fault
