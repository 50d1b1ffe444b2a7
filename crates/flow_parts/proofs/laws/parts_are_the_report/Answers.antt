use Rattle.flow_parts.proofs.Wholes.{parts_are}
use Rattle.flow_parts.proofs.laws.parts_are_the_report.Goals as goal

pub returns : goal.returns
returns c = parts_are
