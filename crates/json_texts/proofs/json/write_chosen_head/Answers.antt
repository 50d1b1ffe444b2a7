use Rattle.text_pieces.proofs.sinks.Taking.{takes_then}
use Rattle.json_texts.proofs.json.write_chosen_head.Goals as goal

pub returns : goal.returns
returns g c =
    takes_then _ _ _ _ _ (takes_then _ _ _ _ _ (takes_then _ _ _ _ _ (takes_then _ _ _ _ _
    c.write.ensures c.write_number.ensures) c.write_place.ensures) c.write-2.ensures)
    c.write_kind.ensures
