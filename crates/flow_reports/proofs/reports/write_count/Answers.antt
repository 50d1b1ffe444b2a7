use Rattle.text_pieces.proofs.sinks.Taking.{takes_then}
use Rattle.flow_reports.proofs.reports.write_count.Goals as goal

pub returns : goal.returns
returns g c = takes_then _ _ _ _ _ c.write.ensures c.write_number.ensures
