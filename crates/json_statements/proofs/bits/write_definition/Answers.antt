use Rattle.text_pieces.proofs.sinks.Taking.{takes_then}
use Rattle.json_statements.proofs.bits.write_definition.Goals as goal

pub returns : goal.returns
returns g c =
    takes_then _ _ _ _ _ (takes_then _ _ _ _ _ (takes_then _ _ _ _ _ (takes_then _ _ _ _ _ c.write.ensures c.write_decimal.ensures) c.write-2.ensures) c.write_point_or_null.ensures) c.write-3.ensures
