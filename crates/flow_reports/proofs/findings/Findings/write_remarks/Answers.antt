use Rattle.flow_reports.proofs.knowledge.KnownReports.{chosen_findings}
use Rattle.flow_reports.proofs.findings.Findings.write_remarks.Goals as goal

pub write_chosen_remarks-requires-clause-found : goal.write_chosen_remarks-requires-clause-found
write_chosen_remarks-requires-clause-found g c = chosen_findings c.args.self.now c.requires.found
