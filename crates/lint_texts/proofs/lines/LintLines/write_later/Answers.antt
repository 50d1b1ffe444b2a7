use Rattle.text_pieces.proofs.sinks.Taking.{takes_then}
use Rattle.lint_texts.proofs.lines.LintLines.write_later.Goals as goal

pub returns : goal.returns
returns g c =
    takes_then _ _ _ _ _ (takes_then _ _ _ _ _ c.write_note_begin.ensures c.write_later_words.ensures) c.write_note_end.ensures
