use Rattle.std.proofs.Common.{◌∙◌, ap, subst, sym}
use Rattle.flow_lints.specs.Lints.{IsLinted}
use Rattle.flow_lints.specs.declared.found.LintFindings.{LintFindings}
use Rattle.flow_lints.specs.declared.lint.Linted.{Linted}
use Rattle.flow_lints.proofs.Safe.{is_linted}
use Rattle.flow_lints.proofs.lints.linted.Goals as goal
use Rattle.flow_reports.specs.code.Findings.{TellDoubtful}
use Rattle.flow_reports.specs.declared.findings.Findings.{Findings}
use Rattle.tac_program.specs.Programs.{Program}

pub returns : goal.returns
returns c =
    let found : LintFindings = c.in_ok-found-2.found in
    let linted : Linted = record { lints = c.in_ok-lints.lints; left_out = c.left_out.result; endless = c.first_endless.result } in
    let doubts = subst (λ (f : Findings). TellDoubtful f.graph.now f.doubtful.items) (sym c.in_ok-found-2.ensures.report)
    c.in_ok-found.ensures.doubtful in
    let same = ap (λ (f : Findings). f.graph.now) c.in_ok-found-2.ensures.report ∙ c.in_ok-found.ensures.program in
    subst (λ (p : Program). IsLinted p linted) same
    (is_linted found c.in_ok-found-2.ensures.found doubts c.in_ok-found-2.ensures.doubtful linted c.in_ok-lints.ensures c.left_out.ensures
    c.first_endless.ensures)
