use Rattle.text_pieces.proofs.sinks.Taking.{takes_then}
use Rattle.json_texts.proofs.outlines.write_statement_field.Goals as goal

pub returns : goal.returns
returns g c =
    takes_then _ _ _ _ _ (takes_then _ _ _ _ _ c.write.ensures c.write_statement_of.ensures) c.write-2.ensures
