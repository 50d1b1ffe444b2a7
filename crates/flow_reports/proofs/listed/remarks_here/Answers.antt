use Rattle.std.proofs.Common.{subst}
use Rattle.std.proofs.lemmas.Result.{IfOk-weaker}
use Rattle.tac_program.specs.Programs.{Program}
use Rattle.flow_reports.specs.Listed.{AreRemarks}
use Rattle.flow_reports.specs.declared.findings.Findings.{Findings}
use Rattle.flow_reports.proofs.knowledge.Listed.{are_remarks}
use Rattle.flow_reports.proofs.listed.remarks_here.Goals as goal

pub returns : goal.returns
returns c =
    let found : Findings = c.in_ok-found.found in
    IfOk-weaker c.remarks.result _ _
    (λ remarks is. subst (λ (p : Program). AreRemarks p remarks.items) c.in_ok-found.ensures.program
    (are_remarks found remarks.items c.in_ok-found.ensures.found c.in_ok-found.ensures.doubtful is))
    c.remarks.ensures
