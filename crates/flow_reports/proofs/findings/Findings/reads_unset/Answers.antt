use Rattle.flow_reports.proofs.knowledge.KnownReports.{chosen_findings}
use Rattle.flow_reports.proofs.findings.Findings.reads_unset.Goals as goal

pub finds_unset-requires-clause-found : goal.finds_unset-requires-clause-found
finds_unset-requires-clause-found c = chosen_findings c.args.self.now c.requires.found
