use Rattle.std.proofs.Common.{◌++◌, ap}
use Rattle.lint_texts.specs.LintTexts.{file_text, note_begin, note_end, turn_words}
use Rattle.text_pieces.proofs.sinks.Taking.{takes_as, takes_then}
use Rattle.lint_texts.proofs.lines.LintLines.write_turn.Goals as goal

pub returns : goal.returns
returns g c =
    let self = c.args.self.now in
    takes_as _ _ _ _ (takes_then _ _ _ _ _ (takes_then _ _ _ _ _ c.write_note_begin.ensures c.write_turn_words.ensures) c.write_note_end.ensures)
    (ap (λ p. note_begin (file_text self.file) self.telling.style self.graph.now p ++ turn_words self.graph.now c.args.turn
    ++ note_end (file_text self.file) self.telling.style self.graph.now p) c.turn_point-from.ensures)
