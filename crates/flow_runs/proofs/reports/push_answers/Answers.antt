use Rattle.std.proofs.Common.{List, ℕ, sym, subst}
use Rattle.flow_reports.specs.Reports.{IsReport, ListsSafely}
use Rattle.flow_runs.proofs.deliveries.Deliveries.{delivers_as}
use Rattle.flow_runs.proofs.reports.push_answers.Goals as goal

pub returns-clause-delivers : goal.returns-clause-delivers
returns-clause-delivers g c =
    let told = c.in_ok-text.ensures in
    delivers_as _ _ _ _ c.push_text.result
    (λ out is. (
      subst (λ (t : List ℕ). IsReport c.args.graph.now t) (sym is) told.report,
      subst (λ (t : List ℕ). ListsSafely c.args.graph.now t) (sym is) told.safe,
    ))
    c.push_text.ensures.delivers
