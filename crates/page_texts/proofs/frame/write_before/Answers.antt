use Rattle.text_pieces.proofs.sinks.Taking.{takes_as, takes_then}
use Rattle.page_texts.proofs.frame.write_before.Goals as goal

pub returns : goal.returns
returns g c = takes_then _ _ _ _ _ (takes_as _ _ _ _ c.write.ensures c.style.ensures) (takes_as _ _ _ _ c.write-2.ensures c.body.ensures)
