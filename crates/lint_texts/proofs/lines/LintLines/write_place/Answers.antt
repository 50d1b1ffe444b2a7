use Rattle.std.proofs.Common.{◌++◌, codes, decimal, ap}
use Rattle.lint_styles.specs.Styles.{shown}
use Rattle.text_pieces.proofs.sinks.Taking.{takes_as, takes_then}
use Rattle.lint_texts.proofs.lines.LintLines.write_place.Goals as goal

pub returns : goal.returns
returns g c =
    takes_as _ _ _ _
    (takes_then _ _ _ _ _
    (takes_then _ _ _ _ _
    (takes_then _ _ _ _ _
    (takes_then _ _ _ _ _ (takes_then _ _ _ _ _ c.write_shown.ensures c.write.ensures) c.write_number.ensures)
    c.write-2.ensures)
    c.write_size.ensures)
    c.write-3.ensures)
    (ap (λ column. shown c.args.self.now.file.name.now ++ codes ":" ++ decimal c.args.start.line ++ codes ":" ++ decimal column ++ codes ": ")
    c.column.ensures)
