use Rattle.std.proofs.Common.{sym, subst}
use Rattle.flow_reports.specs.code.Findings.{AreChosenFindings}
use Rattle.report_answers.specs.code.Reported.{Reported, TellReport}
use Rattle.flow_reports.specs.declared.findings.Findings.{Findings}
use Rattle.tac_program.specs.Programs.{Program}
use Rattle.flow_reports.proofs.findings.Findings.of.Goals as goal

pub returns-clause-found : goal.returns-clause-found
returns-clause-found c =
    let found : Findings = c.in_ok-found.found in
    let are : AreChosenFindings found = c.in_ok-found.ensures.found in
    record {
      sound = are.sound;
      few = are.few;
      answers = subst (λ (p : Program). TellReport p found.answers.now) (sym c.in_ok-found.ensures.program)
          (subst (λ (r : Reported). TellReport c.args.graph.now r) (sym c.in_ok-found.ensures.answers) c.requires);
      doubts = are.doubts;
      expressions = are.expressions;
    }
