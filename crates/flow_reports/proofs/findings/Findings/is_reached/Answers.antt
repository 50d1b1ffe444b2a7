use Rattle.flow_reports.proofs.knowledge.KnownReports.{chosen_findings}
use Rattle.flow_reports.proofs.findings.Findings.is_reached.Goals as goal

pub reaches-requires-clause-found : goal.reaches-requires-clause-found
reaches-requires-clause-found c = chosen_findings c.args.self.now c.requires.found
