use Rattle.source_lines.proofs.lines.Ends.{sources_join}
use Rattle.source_lines.proofs.laws.sources_join.Goals as goal

pub returns : goal.returns
returns c = sources_join
