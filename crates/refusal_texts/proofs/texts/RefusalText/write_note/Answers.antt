use Rattle.text_pieces.proofs.sinks.Taking.{takes_then}
use Rattle.refusal_texts.proofs.texts.RefusalText.write_note.Goals as goal

pub returns : goal.returns
returns g c =
    takes_then _ _ _ _ _
    (takes_then _ _ _ _ _
    (takes_then _ _ _ _ _ (takes_then _ _ _ _ _ c.write_place.ensures c.write_painted.ensures) c.write.ensures)
    c.write_hint.ensures)
    c.write-2.ensures
