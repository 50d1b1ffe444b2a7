use Rattle.std.proofs.Common.{◌++◌, codes, ap}
use Rattle.text_pieces.proofs.sinks.Taking.{takes_as, takes_then}
use Rattle.lint_texts.proofs.lines.LintLines.write_later_words.Goals as goal

pub returns : goal.returns
returns g c =
    takes_as _ _ _ _ (takes_then _ _ _ _ _ c.write.ensures c.write-2.ensures)
    (ap (λ n. n ++ codes " may be used before it is set here too") c.variable.ensures)
