use Rattle.text_pieces.proofs.sinks.Taking.{takes_then}
use Rattle.json_statements.proofs.operands.write_operands.Goals as goal

pub returns : goal.returns
returns g c =
    takes_then _ _ _ _ _ c.write.ensures c.write_array.ensures
