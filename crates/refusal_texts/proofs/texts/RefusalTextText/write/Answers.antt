use Rattle.text_pieces.proofs.sinks.Taking.{takes_then}
use Rattle.refusal_texts.proofs.texts.RefusalTextText.write.Goals as goal

pub returns : goal.returns
returns g c = takes_then _ _ _ _ _ c.write_all.ensures c.write_count.ensures
