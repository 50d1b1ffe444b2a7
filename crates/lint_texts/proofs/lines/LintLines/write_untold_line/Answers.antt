use Rattle.text_pieces.proofs.sinks.Taking.{takes_then}
use Rattle.lint_texts.proofs.lines.LintLines.write_untold_line.Goals as goal

pub returns : goal.returns
returns g c =
    takes_then _ _ _ _ _
    (takes_then _ _ _ _ _
    (takes_then _ _ _ _ _
    (takes_then _ _ _ _ _
    (takes_then _ _ _ _ _
    (takes_then _ _ _ _ _ (takes_then _ _ _ _ _ c.write_shown.ensures c.write.ensures) c.write_painted.ensures)
    c.write-2.ensures)
    c.write_untold.ensures)
    c.write-3.ensures)
    c.write_endless.ensures)
    c.write-4.ensures
