use Rattle.text_pieces.proofs.sinks.Taking.{takes_then}
use Rattle.json_statements.proofs.statements.write_span.Goals as goal

pub returns : goal.returns
returns g c =
    takes_then _ _ _ _ _ (takes_then _ _ _ _ _ (takes_then _ _ _ _ _ c.write.ensures c.write_decimal.ensures) c.write-2.ensures) c.write_decimal-2.ensures
