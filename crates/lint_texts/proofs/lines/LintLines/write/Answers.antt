use Rattle.text_pieces.proofs.sinks.Taking.{takes_then}
use Rattle.lint_texts.proofs.lines.LintLines.write.Goals as goal

pub returns : goal.returns
returns g c = takes_then _ _ _ _ _ (takes_then _ _ _ _ _ c.write_lints.ensures c.write_note.ensures) c.write_count.ensures
