use Rattle.text_pieces.proofs.sinks.Taking.{takes_then}
use Rattle.refusal_texts.proofs.texts.RefusalText.write_lines.Goals as goal

pub returns : goal.returns
returns g c = takes_then _ _ _ _ _ (takes_then _ _ _ _ _ c.write_error.ensures c.write_source.ensures) c.write_wanted_note.ensures
