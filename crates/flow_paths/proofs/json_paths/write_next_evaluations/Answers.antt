use Rattle.text_pieces.proofs.sinks.Taking.{takes_then}
use Rattle.flow_paths.proofs.json_paths.write_next_evaluations.Goals as goal

pub returns : goal.returns
returns g c = takes_then _ _ _ _ _ c.write.ensures c.write_numbers.ensures
