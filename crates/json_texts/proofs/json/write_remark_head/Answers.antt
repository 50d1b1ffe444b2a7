use Rattle.flow_reports.proofs.knowledge.KnownReports.{chosen_findings}
use Rattle.json_texts.proofs.json.write_remark_head.Goals as goal

pub write_chosen_head-requires-clause-found : goal.write_chosen_head-requires-clause-found
write_chosen_head-requires-clause-found g c = chosen_findings c.args.found.now c.requires.found
