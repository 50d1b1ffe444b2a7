use Rattle.flow_reports.proofs.knowledge.KnownReports.{chosen_findings}
use Rattle.flow_reports.proofs.findings.Findings.name.Goals as goal

pub chosen_name-requires-clause-found : goal.chosen_name-requires-clause-found
chosen_name-requires-clause-found c = chosen_findings c.args.self.now c.requires.found
