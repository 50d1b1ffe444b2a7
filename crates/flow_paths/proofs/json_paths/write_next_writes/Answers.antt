use Rattle.text_pieces.proofs.sinks.Taking.{takes_then}
use Rattle.flow_paths.proofs.json_paths.write_next_writes.Goals as goal

pub returns : goal.returns
returns g c =
    takes_then _ _ _ _ _ (takes_then _ _ _ _ _ (takes_then _ _ _ _ _ c.write.ensures c.write_numbers.ensures) c.write-2.ensures)
    c.write_boolean.ensures
