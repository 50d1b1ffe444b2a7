use Rattle.text_pieces.proofs.sinks.Taking.{takes_then}
use Rattle.dot_texts.proofs.dots.write_across.Goals as goal

pub returns : goal.returns
returns g c =
    takes_then _ _ _ _ _ (takes_then _ _ _ _ _ (takes_then _ _ _ _ _ (takes_then _ _ _ _ _ (takes_then _ _ _ _ _ (takes_then _ _ _ _ _
    c.write.ensures c.write-2.ensures) c.write-3.ensures) c.write-4.ensures) c.write-5.ensures) c.write_number.ensures) c.write-6.ensures
