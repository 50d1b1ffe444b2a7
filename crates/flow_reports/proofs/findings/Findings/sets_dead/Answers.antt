use Rattle.flow_reports.proofs.knowledge.KnownReports.{chosen_findings}
use Rattle.flow_reports.proofs.findings.Findings.sets_dead.Goals as goal

pub finds_dead-requires-clause-found : goal.finds_dead-requires-clause-found
finds_dead-requires-clause-found c = chosen_findings c.args.self.now c.requires.found
