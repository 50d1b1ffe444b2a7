use Rattle.std.proofs.Common.{◌++◌, codes, ap}
use Rattle.lint_styles.specs.Styles.{shown}
use Rattle.lint_texts.specs.LintTexts.{remark_count}
use Rattle.text_pieces.proofs.sinks.Taking.{takes_as, takes_then}
use Rattle.lint_texts.proofs.lines.LintLines.write_count.Goals as goal

pub returns : goal.returns
returns g c =
    takes_as _ _ _ _
    (takes_then _ _ _ _ _ (takes_then _ _ _ _ _ (takes_then _ _ _ _ _ c.write_shown.ensures c.write.ensures) c.write_remark_count.ensures)
    c.write-2.ensures)
    (ap (λ n. shown c.args.self.now.file.name.now ++ codes ": " ++ remark_count n ++ codes "\n") c.told_count.ensures)
