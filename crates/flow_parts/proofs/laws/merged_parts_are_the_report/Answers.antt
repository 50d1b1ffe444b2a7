use Rattle.flow_parts.proofs.Merging.{merged_are}
use Rattle.flow_parts.proofs.laws.merged_parts_are_the_report.Goals as goal

pub returns : goal.returns
returns c = merged_are
