use Rattle.text_pieces.proofs.sinks.Taking.{takes_then}
use Rattle.lint_json.proofs.errors.ErrorTextText.write.Goals as goal

pub returns : goal.returns
returns g c =
    takes_then _ _ _ _ _ (takes_then _ _ _ _ _ (takes_then _ _ _ _ _ c.write_begin.ensures c.write_refusal.ensures) c.write_note.ensures) c.write.ensures
