-- Both clauses are about one knowledge, all that is known where this was found.
use Rattle.std.proofs.Common.{List, ℕ, refl, subst}
use Rattle.tac_program.specs.Programs.{Program}
use Rattle.flow_reports.specs.code.Findings.{knowledge_of}
use Rattle.flow_reports.specs.Reports.{IsReport, ListsSafely, report_of}
use Rattle.flow_reports.specs.declared.findings.Findings.{Findings}
use Rattle.flow_reports.proofs.knowledge.SafeReports.{is_report, lists_safely}
use Rattle.flow_reports.proofs.reports.ReportText.of.Goals as goal

pub returns-clause-report : goal.returns-clause-report
returns-clause-report c =
    let found : Findings = c.in_ok-found.found in
    let text : List ℕ = report_of found.graph.now (knowledge_of found) in
    subst (λ (p : Program). IsReport p text) c.in_ok-found.ensures.program
    (is_report found text c.in_ok-found.ensures.found c.in_ok-found.ensures.doubtful refl)

pub returns-clause-safe : goal.returns-clause-safe
returns-clause-safe c =
    let found : Findings = c.in_ok-found.found in
    let text : List ℕ = report_of found.graph.now (knowledge_of found) in
    subst (λ (p : Program). ListsSafely p text) c.in_ok-found.ensures.program
    (lists_safely found text c.in_ok-found.ensures.found c.in_ok-found.ensures.doubtful refl)
