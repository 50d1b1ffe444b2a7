use Rattle.lint_texts.proofs.Texts.{some_left_out}
use Rattle.text_pieces.proofs.sinks.Taking.{takes_as, takes_then}
use Rattle.lint_texts.proofs.lines.LintLines.write_left_out_line.Goals as goal

pub returns-then-count-gt0 : goal.returns-then-count-gt0
returns-then-count-gt0 g c =
    takes_as _ _ _ _
    (takes_then _ _ _ _ _
    (takes_then _ _ _ _ _
    (takes_then _ _ _ _ _
    (takes_then _ _ _ _ _ (takes_then _ _ _ _ _ c.write_shown.ensures c.write.ensures) c.write_painted.ensures)
    c.write-then-count-gt0.ensures)
    c.write_left_out.ensures)
    c.write-then-count-gt0-2.ensures)
    (some_left_out c.args.count _ c.if-count-gt0.true)
